use Rattle.std.proofs.Common.{◌≡◌, drop}
use Rattle.listing.specs.Lists.{listed}
use Rattle.sheet.specs.Hanging.{hung}
use Rattle.sheet.proofs.drafts.hang_rows.Given as goal

-- the rows that are left lead to what all the rows lead to
abbrev pub invariant-loop-row : goal.invariant-loop-row
invariant-loop-row l =
    (hung (listed l.initial.draft.rows).capacity (listed l.draft.rows).items (drop l.row-index l.rows)
    ≡ hung (listed l.initial.draft.rows).capacity (listed l.initial.draft.rows).items l.rows)
    × ((listed l.draft.rows).capacity ≡ (listed l.initial.draft.rows).capacity)
    × (l.draft.weight ≡ l.initial.draft.weight)
