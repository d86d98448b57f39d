use Rattle.std.proofs.Common.{◌≡◌, ℕ, ◌-◌, ◌^◌, ◌<◌, ◌≤◌, true, false}
use Rattle.bridge.specs.Sums.{met, all_at}
use Rattle.bridge.proofs.search.AtFactors.find.Given as goal

-- all below lo miss; from hi on, if it is no more than 10,000, the demand is met; each turn halves what is left
abbrev pub invariant-loop-turn : goal.invariant-loop-turn
invariant-loop-turn g l =
    let m = met g.B.Bearing.force g.B.Bearing.energy (g.R.DampingRule.says l.rule) l.self.rows.now (all_at l.self.s l.self.k) l.demand in
    (1 ≤ l.lo) × (l.lo ≤ l.hi) × (l.hi ≤ 10001) × (l.hi ≤ 10000 → m l.hi ≡ true) × ((j : ℕ) → 1 ≤ j → j < l.lo → m j ≡ false) ×
    (l.hi - l.lo < 2 ^ (14 - l._turn)) × (l._turn ≤ 14)
