use Rattle.std.proofs.Common.{◌≡◌, ◌≤◌, take, length}
use Rattle.std.specs.Io.KnownBytes.{Consumes}
use Rattle.deckpage.proofs.read_sheet.Given as goal

-- each turn read a byte at least; what was read stands at the front of the places, and the rest is still to be read
abbrev pub invariant-loop : goal.invariant-loop
invariant-loop g l =
    (l.counter ≤ l.len) × (l.len ≤ 16385) × (length l.places ≡ length l.initial.places) ×
    Consumes (g.R.Read.remaining l.initial.input) (g.R.Read.remaining l.input) (take l.len l.places)
