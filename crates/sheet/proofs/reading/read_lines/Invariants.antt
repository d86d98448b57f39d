use Rattle.std.proofs.Common.{◌≡◌, ◌+◌, ◌≤◌, length}
use Rattle.listing.specs.Lists.{listed}
use Rattle.sheet.specs.Parts.{parts}
use Rattle.sheet.specs.Machine.{state_of}
use Rattle.sheet.specs.Reading.{begun_with, read_parts}
use Rattle.sheet.proofs.reading.read_lines.Given as goal

abbrev pub invariant-loop-k : goal.invariant-loop-k
invariant-loop-k l =
    (read_parts (listed l.initial.rows).capacity (listed l.initial.cases).capacity l.k (state_of l.reader (listed l.rows).items (listed l.cases).items) (parts 10 l.left)
    ≡ read_parts (listed l.initial.rows).capacity (listed l.initial.cases).capacity 1 (begun_with (listed l.initial.rows).items (listed l.initial.cases).items) (parts 10 l.sheet))
    × ((listed l.rows).capacity ≡ (listed l.initial.rows).capacity)
    × ((listed l.cases).capacity ≡ (listed l.initial.cases).capacity)
    × (l.k + length l.left ≤ 16385)
