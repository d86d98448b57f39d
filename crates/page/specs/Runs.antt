-- What a buffer holds after a page of some outcomes: ended, or voided at the first line that is refused. Assumes nothing.
use Rattle.std.specs.Prelude.{ℕ, ◌+◌, ◌≤◌, List, [], ◌∷◌, ◌++◌, length, Ok, Err, Result}
use Rattle.bearing.specs.declared.fault.Fault.{Fault}
use Rattle.bridge.specs.Outcomes.{Outcome}
use Rattle.page.specs.Text.{written, names_line, case_line, end_line, void_line}
use Rattle.page.specs.Pages.{begun, begun_len, line_answer, closed, closed_len}

-- by the answer to a line: what comes of the lines after it, or of a void line
abbrev pub if_taken : {X : Type 0} → Result (Unit {0}) Fault → X → X → X
if_taken (Ok u) more voided = more
if_taken (Err e) more voided = voided

-- the bytes and how many of them are written, from a page of these bytes with at bytes and count case lines written
abbrev pub run : List ℕ → ℕ → ℕ → List Outcome → List ℕ × ℕ
run old at count [] = (closed old at (end_line count), closed_len (length old) at (end_line count))
run old at count (o ∷ os) =
    if_taken (line_answer (length old) at count (case_line (count + 1) o))
    (run (written old at (case_line (count + 1) o)) (at + length (case_line (count + 1) o)) (count + 1) os)
    (closed old at void_line, closed_len (length old) at void_line)

-- the same from the buffer that the page is begun on
abbrev pub page_run : List ℕ → List Outcome → List ℕ × ℕ
page_run old os = run (begun old) (begun_len (length old)) 0 os

-- the case lines of some outcomes, after count others
abbrev pub lines_text : ℕ → List Outcome → List ℕ
lines_text count [] = []
lines_text count (o ∷ os) = case_line (count + 1) o ++ lines_text (count + 1) os

-- a whole page
abbrev pub page_text : List Outcome → List ℕ
page_text os = names_line ++ lines_text 0 os ++ end_line (length os)

-- whether the page has its end line: at most 99 outcomes, and 7 bytes free after their lines
pub record Fits (size : ℕ) (os : List Outcome) : Type 0 where
  pub few : length os ≤ 99
  pub space : 44 + length (lines_text 0 os) + 7 ≤ size
