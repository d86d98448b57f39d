use Rattle.std.proofs.Common.{refl}
use Rattle.kinds.specs.Leads.{stiffness_of}
use Rattle.kinds.specs.LeadsLemmas.{shaped_says, stiffness_pos, stiffness_top}
use Rattle.kinds.proofs.lead.LeadRubber.stiffness.Goals as goal

pub returns : goal.returns
unfolding stiffness_of
returns c =
    let h = shaped_says c.args.self.now c.requires in
    record { value = refl; low = stiffness_pos c.args.self.now h; top = stiffness_top c.args.self.now h }
