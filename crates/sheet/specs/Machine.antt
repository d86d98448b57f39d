-- What a line may be depends on where the reader stands. Assumes nothing.
use Rattle.std.specs.Prelude.{ℕ, ◌+◌, cond, List, length, Some, None, Ok, Err, codes, Option, Result, nat_lt}
use Rattle.std.specs.Option.{ok_or}
use Rattle.bearing.specs.declared.fault.Fault.{Fault}
use Rattle.bearing.specs.Refusals.{and_then, with_ok}
use Rattle.loading.specs.Making.{weight_made}
use Rattle.listing.specs.Lists.{push_answer, pushed}
use Rattle.sheet.specs.declared.machine.Reader.{Reader}
use Rattle.sheet.specs.declared.machine.Reader.TheVariants as reader
use Rattle.sheet.specs.Parts.{begins, is_text}
use Rattle.sheet.specs.Numbers.{parsed}
use Rattle.sheet.specs.RowLines.{form_fault, names_fault, Row, row_line}
use Rattle.sheet.specs.CaseLines.{Numbers, case_line}

-- which line may come next
pub data Stage : Type 0 where
  WeightNames : Stage
  WeightValue : Stage
  RowNames : Stage
  Rows : Stage
  Cases : Stage

-- where the reader stands, and the weight in kilonewtons once it is read
pub record Standing : Type 0 where
  pub stage : Stage
  pub weight : Option ℕ

abbrev pub standing : Reader → Standing
standing reader.WeightNames = record { stage = WeightNames; weight = None }
standing reader.WeightValue = record { stage = WeightValue; weight = None }
standing (reader.RowNames w) = record { stage = RowNames; weight = Some w.kn }
standing (reader.Rows w) = record { stage = Rows; weight = Some w.kn }
standing (reader.Cases w) = record { stage = Cases; weight = Some w.kn }

-- the same with the rows and the cases that are read so far
pub record State : Type 0 where
  pub at : Standing
  pub rows : List Row
  pub cases : List Numbers

abbrev pub state_of : Reader → List Row → List Numbers → State
state_of r rows cases = record { at = standing r; rows = rows; cases = cases }

-- the three names lines
abbrev pub weight_names : List ℕ
weight_names = codes "weight"

abbrev pub row_names : List ℕ
row_names = codes "kind,count,p1,p2,p3,p4,p5"

abbrev pub case_names : List ℕ
case_names = codes "case,accel,site,slo,shi,klo,khi,rule"

-- further on
abbrev pub moved_to : Stage → Standing → Standing
moved_to next s = record { stage = next; weight = s.weight }

-- a names line is the text itself, and then the reader stands elsewhere
abbrev pub named_as : List ℕ → Standing → List ℕ → Result Standing Fault
named_as text next line = cond (is_text text line) (Ok next) (Err names_fault)

-- and so it goes on
abbrev pub named : List ℕ → Stage → Standing → List ℕ → Result Standing Fault
named text next s line = named_as text (moved_to next s) line

-- the third names line may stand only after a row
abbrev pub cases_named : ℕ → Standing → List ℕ → Result Standing Fault
cases_named rows s line = cond (nat_lt 0 rows) (named case_names Cases s line) (Err names_fault)

-- the weight line
abbrev pub weighed : Standing → List ℕ → Result Standing Fault
weighed s line =
    and_then (ok_or (parsed line) form_fault) (λ n. and_then (weight_made n) (λ w. Ok (record { stage = RowNames; weight = Some w })))

-- a list with one element more, where it is accepted and a place is free
abbrev pub kept : {T : Type 0} → ℕ → List T → Result T Fault → Result (List T) Fault
kept places xs r = and_then r (λ x. with_ok (push_answer places xs) (λ _. pushed places xs x))

-- a line at each place where the reader may stand, with places for some rows and for some cases
abbrev pub step_at : ℕ → ℕ → Stage → State → List ℕ → Result State Fault
step_at row_places case_places WeightNames st line = with_ok (named weight_names WeightValue st.at line) (λ s. record { at = s; rows = st.rows; cases = st.cases })
step_at row_places case_places WeightValue st line = with_ok (weighed st.at line) (λ s. record { at = s; rows = st.rows; cases = st.cases })
step_at row_places case_places RowNames st line = with_ok (named row_names Rows st.at line) (λ s. record { at = s; rows = st.rows; cases = st.cases })
step_at row_places case_places Rows st line =
    cond (begins (codes "case") line)
    (with_ok (cases_named (length st.rows) st.at line) (λ s. record { at = s; rows = st.rows; cases = st.cases }))
    (with_ok (kept row_places st.rows (row_line line)) (λ rs. record { at = st.at; rows = rs; cases = st.cases }))
step_at row_places case_places Cases st line =
    with_ok (kept case_places st.cases (case_line (length st.cases + 1) line)) (λ cs. record { at = st.at; rows = st.rows; cases = cs })

abbrev pub step : ℕ → ℕ → State → List ℕ → Result State Fault
step row_places case_places st line = step_at row_places case_places st.at.stage st line

-- what stands after a line: a refused one leaves it as it was
abbrev pub after : {S : Type 0} → Result S Fault → S → S
after (Ok x) s = x
after (Err e) s = s

-- what a line is answered
abbrev pub answer : {S : Type 0} → Result S Fault → Result (Unit {0}) Fault
answer (Ok x) = Ok tt
answer (Err e) = Err e
