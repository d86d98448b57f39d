use Rattle.std.proofs.Common.{arith}
use Rattle.bearing.specs.Compounds.{force_counts}
use Rattle.bearing.proofs.compound.Group.counts_as.Goals as goal

pub overflow_mul-n : goal.overflow_mul-n
overflow_mul-n g c =
    simp c.answer-greatest.ensures
    (omega (arith, force_counts (g.met.B.Bearing.laws c.args.self.now.member) c.args.self.now.count 300 300 10000 (omega arith)))
