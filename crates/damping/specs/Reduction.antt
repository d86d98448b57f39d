-- The laws of the rule of EN 1998-1. Assumes nothing.
use Rattle.std.proofs.Common.{arith}
use Rattle.std.proofs.lemmas.Bool.Decides.{nat_tests}
use Rattle.damping.specs.Rule.{RuleLaws}
use Rattle.damping.specs.Eurocode.{eurocode_says}

pub eurocode_laws : RuleLaws eurocode_says
eurocode_laws = record {
  none_at_rest = λ e r. grind (arith, nat_tests);
  stays = λ e p r e' p' r' i i' he hp hr yes_at. grind (arith, nat_tests);
}
