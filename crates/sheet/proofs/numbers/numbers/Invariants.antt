use Rattle.std.proofs.Common.{◌≡◌, ◌-◌, length, take}
use Rattle.std.specs.Option.{option_map}
use Rattle.sheet.specs.Parts.{parts_of, fields}
use Rattle.sheet.specs.Numbers.{sized}
use Rattle.sheet.proofs.Taken.{join_to}
use Rattle.sheet.proofs.numbers.numbers.Given as goal

abbrev pub invariant-loop-n : goal.invariant-loop-n
invariant-loop-n g l = (length l.n-items ≡ g.row.N) × (join_to (take l.n-index l.n-items) (sized (g.row.N - l.n-index) (parts_of 44 (option_map (λ x. x.now) l.left))) ≡ sized g.row.N (fields l.line))
