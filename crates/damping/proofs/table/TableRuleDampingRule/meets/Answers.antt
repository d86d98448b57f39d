use Rattle.std.proofs.Common.{◌≡◌, rules}
use Rattle.damping.specs.Table.{scaled_factor}
use Rattle.damping.proofs.table.TableRuleDampingRule.meets.Goals as goal

seen : (c : goal.After-at_least) → c.on_segment-x.result ≡ scaled_factor c.args.e c.args.p
unfolding scaled_factor
seen c = c.on_segment-x.ensures

pub returns : goal.returns
returns c = let e = seen c in search rules
