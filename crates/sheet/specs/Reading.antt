-- A whole sheet. Assumes nothing.
use Rattle.std.specs.Prelude.{◌≡◌, ℕ, ◌+◌, cond, List, [], ◌∷◌, length, Some, None, Ok, Err, Option, Result, nat_lt}
use Rattle.bearing.specs.declared.fault.Fault.{Fault}
use Rattle.bearing.specs.declared.fault.Refusal.TheVariants.{SheetTooLong}
use Rattle.bearing.specs.declared.fault.Layer.TheVariants.{Sheet}
use Rattle.bearing.specs.Refusals.{plain_fault, lined_fault, on_line, with_ok}
use Rattle.loading.specs.Making.{case_made}
use Rattle.sheet.specs.Parts.{parts}
use Rattle.sheet.specs.RowLines.{form_fault, names_fault, Row}
use Rattle.sheet.specs.CaseLines.{Numbers}
use Rattle.sheet.specs.Machine.{Stage, WeightNames, WeightValue, RowNames, Rows, Cases, Standing, State, step}

-- what an accepted sheet holds; the weight in kilonewtons
pub record Content : Type 0 where
  pub weight : ℕ
  pub rows : List Row
  pub cases : List Numbers

-- the weight of a sheet that ends where no line is due: it stands among the cases and has one at least
abbrev pub weight_at_end : Stage → Option ℕ → ℕ → Result ℕ Fault
weight_at_end WeightNames w n = Err names_fault
weight_at_end WeightValue w n = Err names_fault
weight_at_end RowNames w n = Err names_fault
weight_at_end Rows w n = Err names_fault
weight_at_end Cases None n = Err names_fault
weight_at_end Cases (Some w) n = cond (nat_lt 0 n) (Ok w) (Err names_fault)

-- the same by what stands after the last line end: anything there would be a line without an end
abbrev pub ended_with : List ℕ → Standing → ℕ → Result ℕ Fault
ended_with [] at n = weight_at_end at.stage at.weight n
ended_with (x ∷ xs) at n = Err form_fault

-- a sheet that ends before line k
abbrev pub finished : ℕ → State → Result Content Fault
finished k st =
    with_ok (on_line k (weight_at_end st.at.stage st.at.weight (length st.cases))) (λ w. record { weight = w; rows = st.rows; cases = st.cases })

-- after the last line end nothing may stand: it would be a line without an end
abbrev pub last_part : ℕ → State → List ℕ → Result Content Fault
last_part k st [] = finished k st
last_part k st (x ∷ xs) = Err (lined_fault k form_fault)

-- after a line that is taken the reading goes on, and a refusal ends it, with its line
abbrev pub onward : Result State Fault → ℕ → (State → Result Content Fault) → Result Content Fault
onward (Ok s) k f = f s
onward (Err e) k f = Err (lined_fault k e)

-- nothing is read yet but what the lists hold
abbrev pub begun_with : List Row → List Numbers → State
begun_with rows cases = record { at = record { stage = WeightNames; weight = None }; rows = rows; cases = cases }

module _ (row_places case_places : ℕ) where
  -- the parts between line ends, from line k on: each but the last is a line
  abbrev pub read_lines : ℕ → State → List ℕ → List (List ℕ) → Result Content Fault
  read_lines k st l [] = last_part k st l
  read_lines k st l (m ∷ ls) = onward (step row_places case_places st l) k (λ s. read_lines (k + 1) s m ls)

  abbrev pub read_parts : ℕ → State → List (List ℕ) → Result Content Fault
  read_parts k st [] = finished k st
  read_parts k st (l ∷ ls) = read_lines k st l ls

  -- a sheet of at most 16,384 bytes
  abbrev pub read_sheet : List ℕ → Result Content Fault
  read_sheet sheet = cond (nat_lt 16384 (length sheet)) (Err (plain_fault SheetTooLong Sheet)) (read_parts 1 (begun_with [] []) (parts 10 sheet))

-- what the two lists hold after a reading: nothing where it is refused
abbrev pub rows_read : Result Content Fault → List Row
rows_read (Ok c) = c.rows
rows_read (Err e) = []

abbrev pub cases_read : Result Content Fault → List Numbers
cases_read (Ok c) = c.cases
cases_read (Err e) = []

-- every case that is read makes a case record
abbrev pub AllMade : List Numbers → Type 0
AllMade [] = Unit {0}
AllMade (n ∷ ns) = (case_made n ≡ Ok n) × AllMade ns
