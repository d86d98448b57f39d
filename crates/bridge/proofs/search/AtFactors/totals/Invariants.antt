use Rattle.std.proofs.Common.{◌≡◌, ◌*◌, ◌≤◌, length, take}
use Rattle.bridge.specs.Sums.{total, all_at}
use Rattle.bridge.proofs.search.AtFactors.totals.Given as goal

abbrev pub invariant-loop-b : goal.invariant-loop-b
invariant-loop-b g l =
    (l.b-index ≤ length l.rows) ×
    (l.f ≡ total g.B.Bearing.force (take l.b-index l.rows) (all_at l.self.s l.self.k) l.d) ×
    (l.e ≡ total g.B.Bearing.energy (take l.b-index l.rows) (all_at l.self.s l.self.k) l.d) ×
    (l.f ≤ l.b-index * 100000000) ×
    (l.e ≤ l.b-index * 6553500000000)
