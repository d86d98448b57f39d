use Rattle.std.proofs.Common.{◌≡◌, drop}
use Rattle.sheet.specs.RowLines.{unused_zero}
use Rattle.sheet.proofs.rowlines.check_unused.Given as goal

abbrev pub invariant-loop-j : goal.invariant-loop-j
invariant-loop-j l = unused_zero l.own l.j (drop l.j l.p) ≡ unused_zero l.own 0 l.p
