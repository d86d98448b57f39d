use Rattle.std.proofs.Common.{◌≡◌, take}
use Rattle.listing.specs.Lists.{listed, with_items}
use Rattle.bridge.specs.Calls.{hung_rows, call_replies}
use Rattle.bridge.proofs.running.enter_all.Given as goal

abbrev pub invariant-loop-i : goal.invariant-loop-i
invariant-loop-i g l =
    (listed l.draft.rows ≡ with_items (listed l.initial.draft.rows) (hung_rows (listed l.initial.draft.rows).capacity (listed l.initial.draft.rows).items (take l.i l.calls))) ×
    (l.draft.weight ≡ l.initial.draft.weight) ×
    (take l.i l.replies ≡ call_replies (listed l.initial.draft.rows).capacity (listed l.initial.draft.rows).items (take l.i l.calls))
