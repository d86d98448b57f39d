use Rattle.std.proofs.Common.{◌≡◌, ◌≤◌, drop}
use Rattle.listing.specs.Lists.{listed}
use Rattle.deck.specs.Whole.{outcomes}
use Rattle.deck.proofs.Lines.{to_end}
use Rattle.deck.proofs.job.write_cases.Given as goal

-- the page lies in the same buffer, and the cases that are left lead to what all the cases lead to
abbrev pub invariant-loop-numbers : goal.invariant-loop-numbers
invariant-loop-numbers l =
    (l.page.buffer.ghost_name ≡ l.initial.page.buffer.ghost_name)
    × (to_end l.page.buffer.now l.page.len l.page.cases l.answered (outcomes (listed l.bridge.rows).items l.bridge.weight.kn (drop l.numbers-index l.cases))
    ≡ to_end l.initial.page.buffer.now l.initial.page.len l.initial.page.cases 0 (outcomes (listed l.bridge.rows).items l.bridge.weight.kn l.cases))
    × (l.answered ≤ l.numbers-index)
