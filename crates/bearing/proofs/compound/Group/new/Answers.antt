use Rattle.std.proofs.Common.{is_ok, sym, ap, ◌∙◌, arith}
use Rattle.bearing.specs.Compounds.{force_counts, count_passed}
use Rattle.bearing.proofs.compound.Group.new.Goals as goal

pub overflow_mul-count : goal.overflow_mul-count
overflow_mul-count g c =
    let few = count_passed c.args.count (ap is_ok (sym c.check_count.ensures ∙ c.in_ok-check_count.was)) in
    simp c.answer-greatest.ensures
    (omega (arith, force_counts (g.met.B.Bearing.laws c.args.member) c.args.count 300 300 10000 (omega (arith, few.1))))
