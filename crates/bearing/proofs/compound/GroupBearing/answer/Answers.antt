use Rattle.std.proofs.Common.{arith}
use Rattle.bearing.specs.Compounds.{force_counts, energy_counts}
use Rattle.bearing.proofs.compound.GroupBearing.answer.Goals as goal

pub overflow_mul-result : goal.overflow_mul-result
overflow_mul-result g c =
    simp c.answer-force.ensures
    (omega (arith, force_counts (g.met.B.Bearing.laws c.args.self.now.member) c.counts_as-n.result c.nearest_factor.result c.nearest_factor-2.result c.nearest_travel.result c.counts_as-n.ensures.few))

pub overflow_mul-result-2 : goal.overflow_mul-result-2
overflow_mul-result-2 g c =
    simp c.answer-force.ensures
    (omega (arith, energy_counts (g.met.B.Bearing.laws c.args.self.now.member) c.counts_as-n.result c.nearest_factor.result c.nearest_factor-2.result c.nearest_travel.result c.counts_as-n.ensures.few (omega arith)))
