use Rattle.std.proofs.Common.{le_refl, arith}
use Rattle.bridge.specs.Sums.{all_at}
use Rattle.bridge.proofs.Totals.{total_grows, total_limit}
use Rattle.bridge.proofs.search.AtFactors.restores.Goals as goal

pub overflow_sub-result : goal.overflow_sub-result
overflow_sub-result g c =
    let w = c.totals-whole.ensures.forces in
    let h = c.totals-half.ensures.forces in
    omega (
      arith,
      total_grows g.B.Bearing.force (λ b. (g.met.B.Bearing.laws b).force_grows) c.args.self.now.rows.now (all_at c.args.self.now.s c.args.self.now.k) (all_at c.args.self.now.s c.args.self.now.k) c.div_ceil.result c.args.dlow
          (λ i _. record { s_below = le_refl _; k_below = le_refl _ }) (omega arith),
    )

pub overflow_mul-result : goal.overflow_mul-result
overflow_mul-result g c =
    let w = c.totals-whole.ensures.forces in
    omega (arith, total_limit g.met.B.Bearing.laws c.args.self.now.rows.now (all_at c.args.self.now.s c.args.self.now.k) c.args.dlow)
