use Rattle.std.proofs.Common.{refl}
use Rattle.kinds.specs.Leads.{strength_of}
use Rattle.kinds.specs.LeadsLemmas.{shaped_says, strength_top}
use Rattle.kinds.proofs.lead.LeadRubber.strength.Goals as goal

pub returns-clause-value : goal.returns-clause-value
unfolding strength_of
returns-clause-value c = refl

pub returns-clause-top : goal.returns-clause-top
unfolding strength_of
returns-clause-top c = strength_top c.args.self.now (shaped_says c.args.self.now c.requires)
