use Rattle.std.proofs.Common.{ℕ, ◌*◌, ap, arith}
use Rattle.bridge.specs.Sums.{all_at, met}
use Rattle.bridge.proofs.Totals.{product_top}
use Rattle.bridge.proofs.search.AtFactors.is_met.Goals as goal

pub overflow_mul-d : goal.overflow_mul-d
overflow_mul-d g c =
    let f = ap (λ (x : ℕ). c.args.d * x) c.totals-f.ensures.forces in
    omega (arith, product_top g.met.B.Bearing.laws c.args.self.now.rows.now (all_at c.args.self.now.s c.args.self.now.k) c.args.d 65535 c.args.self.now.few (omega arith))

pub returns : goal.returns
unfolding met
returns g c =
    let f = c.totals-f.ensures.forces in
    let e = c.totals-f.ensures.energies in
    cc c.meets.ensures
