use Rattle.std.proofs.Common.{rules}
use Rattle.kinds.specs.Leads.{yield_at}
use Rattle.kinds.proofs.lead.LeadRubber.bilinear.Goals as goal

pub returns-clause-yields : goal.returns-clause-yields
unfolding yield_at
returns-clause-yields c = search rules
