-- The page of a sheet, from bytes to bytes. Assumes nothing.
use Rattle.std.specs.Prelude.{ℕ, ◌+◌, List, [], ◌∷◌, map, length, Ok, Err, Result}
use Rattle.bearing.specs.declared.fault.Fault.{Fault}
use Rattle.bearing.specs.Refusals.{and_then}
use Rattle.bearing.specs.Laws.{Curve}
use Rattle.kinds.specs.Leads.{lead_energy}
use Rattle.kinds.specs.Pendulums.{pendulum_energy}
use Rattle.either.specs.Either.{either}
use Rattle.bearing.specs.Compound.{group_force, group_energy}
use Rattle.damping.specs.Rule.{Says}
use Rattle.damping.specs.Table.{table_says}
use Rattle.damping.specs.Eurocode.{eurocode_says}
use Rattle.bridge.specs.Answers.{queried}
use Rattle.bridge.specs.Outcomes.{Outcome, Answered, Refused, outcome_of}
use Rattle.sheet.specs.RowLines.{Row, kind_force}
use Rattle.sheet.specs.CaseLines.{SheetRule, Numbers}
use Rattle.sheet.specs.Reading.{Content, read_sheet}
use Rattle.page.specs.Text.{case_line}
use Rattle.page.specs.Pages.{begun_len, line_answer, refusal_answer, refusal_written}
use Rattle.page.specs.Runs.{page_run}
use Rattle.deck.specs.declared.job.Summary.{Summary}

-- the force of a row, in newtons
abbrev pub row_force : Row → Curve
row_force = group_force kind_force

-- the energy of a row, in newtons times tenths of a millimetre
abbrev pub row_energy : Row → Curve
row_energy = group_energy kind_force (either lead_energy pendulum_energy)

-- what the rule of a sheet says
abbrev pub rule_says : SheetRule → Says
rule_says = either (λ _. table_says) (λ _. eurocode_says)

-- what a load case comes to, for these rows and this weight in kilonewtons
abbrev pub case_outcome : List Row → ℕ → Numbers → Outcome
case_outcome rows w n = outcome_of (queried row_force row_energy rule_says rows w n)

-- what the load cases of a sheet come to, in their order
abbrev pub outcomes : List Row → ℕ → List Numbers → List Outcome
outcomes rows w cases = map (case_outcome rows w) cases

-- how many of them are answered
abbrev pub one_if_answered : Outcome → ℕ
one_if_answered (Answered v) = 1
one_if_answered (Refused n) = 0

abbrev pub answered : List Outcome → ℕ
answered [] = 0
answered (o ∷ os) = one_if_answered o + answered os

-- how a page of so many bytes answers the lines of some outcomes, with at bytes and count lines written: the first refusal
abbrev pub lines_answer : ℕ → ℕ → ℕ → List Outcome → Result (Unit {0}) Fault
lines_answer size at count [] = Ok tt
lines_answer size at count (o ∷ os) =
    and_then (line_answer size at count (case_line (count + 1) o)) (λ _. lines_answer size (at + length (case_line (count + 1) o)) (count + 1) os)

-- a whole job: the bytes of the page, how many of them are written, and what the sheet holds or why it is refused
pub record Done : Type 0 where
  pub bytes : List ℕ
  pub written : ℕ
  pub result : Result Summary Fault

abbrev pub counted : List Row → List Outcome → Summary
counted rows os = record { rows = length rows; cases = length os; answered = answered os }

abbrev pub with_summary : Result (Unit {0}) Fault → Summary → Result Summary Fault
with_summary (Ok u) s = Ok s
with_summary (Err e) s = Err e

-- an accepted sheet has its page, ended, or voided at the first line that is refused
abbrev pub page_done : List ℕ → List Row → List Outcome → Done
page_done old rows os = record {
  bytes = (page_run old os).0;
  written = (page_run old os).1;
  result = with_summary (lines_answer (length old) (begun_len (length old)) 0 os) (counted rows os);
}

-- a refused sheet has a refusal page, or nothing is written where that does not fit
abbrev pub refusal_len : Result ℕ Fault → ℕ
refusal_len (Ok n) = n
refusal_len (Err e) = 0

abbrev pub refusal_fault : Result ℕ Fault → Fault → Fault
refusal_fault (Ok n) e = e
refusal_fault (Err z) e = z

abbrev pub refusal_done : List ℕ → Fault → Done
refusal_done old e = record {
  bytes = refusal_written old e;
  written = refusal_len (refusal_answer (length old) e);
  result = Err (refusal_fault (refusal_answer (length old) e) e);
}

abbrev pub content_done : List ℕ → Result Content Fault → Done
content_done old (Ok c) = page_done old c.rows (outcomes c.rows c.weight c.cases)
content_done old (Err e) = refusal_done old e

-- the whole job, with 64 places for rows and 16 for cases
unfoldable pub job : List ℕ → List ℕ → Done
job sheet old = content_done old (read_sheet 64 16 sheet)
