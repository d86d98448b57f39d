use Rattle.std.proofs.Common.{◌≡◌, ◌+◌, ◌-◌, ◌/◌, sym, ap, ◌∙◌, arith}
use Rattle.bridge.specs.Sums.{met, all_at}
use Rattle.bridge.proofs.Totals.{met_rises}
use Rattle.bridge.proofs.Firsts.{design_some, design_none, misses_below, halved, none_left}
use Rattle.bridge.proofs.search.AtFactors.find.Goals.{then-is_met, else-is_met, else-loop-turn-test, then-loop-turn-test+then-lo-hi}
use Rattle.bridge.proofs.search.AtFactors.find.Goals as goal

pub loop-turn-preserved : goal.loop-turn-preserved
loop-turn-preserved g c =
    let m = met g.B.Bearing.force g.B.Bearing.energy (g.R.DampingRule.says c.args.rule.now) c.args.self.now.rows.now (all_at c.args.self.now.s c.args.self.now.k) c.args.demand in
    let rises = met_rises g.met.B.Bearing.laws (g.met.R.DampingRule.laws c.args.rule.now) c.args.self.now.rows.now c.args.self.now.s c.args.self.now.k c.args.demand c.args.self.now.few c.requires.low c.requires.top in
    let left = halved (c.loop-turn.hi - c.loop-turn.lo) (c.if-is_met.hi - c.if-is_met.lo) c.loop-turn._turn (omega arith) c.loop-turn.invariant.5 in
    elim c.if-is_met.branch [
      | then-is_met w ↦ (
        omega (arith, w.lo-is),
        omega (arith, w.lo-is, w.hi-is),
        omega (arith, w.hi-is),
        λ h. ap m w.hi-is ∙ sym w.if-is_met.ensures,
        λ j a b. c.loop-turn.invariant.4 j a (omega (arith, w.lo-is)),
        left (omega (arith, w.lo-is, w.hi-is)),
        omega arith,
      )
      | else-is_met w ↦ (
        omega (arith, w.lo-is),
        omega (arith, w.lo-is, w.hi-is),
        omega (arith, w.hi-is),
        λ h. ap m w.hi-is ∙ c.loop-turn.invariant.3 (omega (arith, w.hi-is)),
        λ j a b. misses_below _ rises (c.loop-turn.lo + (c.loop-turn.hi - c.loop-turn.lo) / 2) j (omega arith) (omega (arith, w.lo-is)) (sym w.if-is_met.ensures),
        left (omega (arith, w.lo-is, w.hi-is)),
        omega arith,
      )
    ]

pub returns-then-lo-gt10000 : goal.returns-then-lo-gt10000
returns-then-lo-gt10000 g c =
    sym (design_none (met g.B.Bearing.force g.B.Bearing.energy (g.R.DampingRule.says c.args.rule.now) c.args.self.now.rows.now (all_at c.args.self.now.s c.args.self.now.k) c.args.demand)
    (λ d low high. c.loop-turn.invariant.4 d low (omega arith)))

pub returns-else-lo-gt10000 : goal.returns-else-lo-gt10000
returns-else-lo-gt10000 g c =
    let m = met g.B.Bearing.force g.B.Bearing.energy (g.R.DampingRule.says c.args.rule.now) c.args.self.now.rows.now (all_at c.args.self.now.s c.args.self.now.k) c.args.demand in
    let e : c.loop-turn.lo ≡ c.loop-turn.hi = elim c.loop-turn-test.branch [
      | else-loop-turn-test w ↦ omega (arith, none_left (c.loop-turn.hi - c.loop-turn.lo) c.loop-turn._turn w.loop-turn-test.false c.loop-turn.invariant.5)
      | then-loop-turn-test+then-lo-hi w ↦ w.if-lo-hi.true
    ] in
    sym (design_some m c.loop-turn.lo
    (record { from_one = omega arith; to_last = omega arith; passed = ap m e ∙ c.loop-turn.invariant.3 (omega arith); first = c.loop-turn.invariant.4 }))
