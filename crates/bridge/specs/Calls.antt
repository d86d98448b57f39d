-- The rows that stand after a list of calls on a draft, and what each call is answered. Assumes nothing.
use Rattle.std.specs.Prelude.{ℕ, List, [], ◌∷◌, Result}
use Rattle.bearing.specs.declared.fault.Fault.{Fault}
use Rattle.bridge.specs.declared.calls.DraftCall.{DraftCall}
use Rattle.bridge.specs.declared.calls.DraftCall.TheVariants.{Hang, TakeOff}
use Rattle.listing.specs.Lists.{pushed, push_answer, popped, pop_answer}

module _ {B : Type 0} (places : ℕ) where
  -- the rows after one call: a hanging adds its row at the end where a place is free, a taking-off strikes the last
  abbrev pub called : List B → DraftCall B → List B
  called rows (Hang b) = pushed places rows b
  called rows TakeOff = popped rows

  -- what the call is answered: done, or refused with 4 or 5
  abbrev pub call_reply : List B → DraftCall B → Result (Unit {0}) Fault
  call_reply rows (Hang b) = push_answer places rows
  call_reply rows TakeOff = pop_answer rows

  -- the rows after a list of calls
  abbrev pub hung_rows : List B → List (DraftCall B) → List B
  hung_rows rows [] = rows
  hung_rows rows (c ∷ cs) = hung_rows (called rows c) cs

  -- what they are answered, call by call
  abbrev pub call_replies : List B → List (DraftCall B) → List (Result (Unit {0}) Fault)
  call_replies rows [] = []
  call_replies rows (c ∷ cs) = call_reply rows c ∷ call_replies (called rows c) cs
