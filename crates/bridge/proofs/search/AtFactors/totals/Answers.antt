use Rattle.std.proofs.Common.{ℕ, ◌≤◌, sym, ap, arith}
use Rattle.bridge.proofs.Totals.{total_none, total_next, energy_limit}
use Rattle.bridge.proofs.search.AtFactors.totals.Goals as goal

pub loop-b-init : goal.loop-b-init
loop-b-init g c = (omega arith, sym (total_none g.B.Bearing.force _ _ _), sym (total_none g.B.Bearing.energy _ _ _), omega arith, omega arith)

pub overflow_add-f : goal.overflow_add-f
overflow_add-f g c =
    let x = ap (λ (p : ℕ × ℕ). p.0) c.answer-x.ensures in
    let few : c.loop-b.b-index ≤ 64 = omega arith in
    omega (arith, (g.met.B.Bearing.laws c.b-item.result).force_limit c.args.self.now.s c.args.self.now.k c.args.d)

pub overflow_add-e : goal.overflow_add-e
overflow_add-e g c =
    let y = ap (λ (p : ℕ × ℕ). p.1) c.answer-x.ensures in
    let few : c.loop-b.b-index ≤ 64 = omega arith in
    omega (arith, energy_limit g.met.B.Bearing.laws c.b-item.result c.args.self.now.s c.args.self.now.k c.args.d 65535 (omega arith))

pub loop-b-preserved : goal.loop-b-preserved
loop-b-preserved g c =
    let x = ap (λ (p : ℕ × ℕ). p.0) c.answer-x.ensures in
    let y = ap (λ (p : ℕ × ℕ). p.1) c.answer-x.ensures in
    let f = total_next g.B.Bearing.force c.args.self.now.rows.now c.loop-b.b-index c.b-item.result c.args.self.now.s c.args.self.now.k c.args.d c.loop-b-test.true c.b-item.is in
    let e = total_next g.B.Bearing.energy c.args.self.now.rows.now c.loop-b.b-index c.b-item.result c.args.self.now.s c.args.self.now.k c.args.d c.loop-b-test.true c.b-item.is in (
      omega arith,
      omega (arith, c.loop-b.invariant.1),
      omega (arith, c.loop-b.invariant.2),
      omega (arith, (g.met.B.Bearing.laws c.b-item.result).force_limit c.args.self.now.s c.args.self.now.k c.args.d),
      omega (arith, energy_limit g.met.B.Bearing.laws c.b-item.result c.args.self.now.s c.args.self.now.k c.args.d 65535 (omega arith)),
    )
