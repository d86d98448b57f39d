-- A sheet that is read, and what is done with it. Assumes nothing.
use Rattle.std.proofs.Common.{◌≡◌, ℕ, List, length, Ok, Err, Result, sym, ap, ◌∙◌}
use Rattle.std.proofs.lemmas.List.{length-map}
use Rattle.bearing.specs.declared.fault.Fault.{Fault}
use Rattle.bearing.specs.Refusals.{with_ok}
use Rattle.sheet.specs.RowLines.{Row}
use Rattle.sheet.specs.CaseLines.{Numbers}
use Rattle.sheet.specs.Reading.{Content, read_sheet, rows_read, cases_read}
use Rattle.sheet.specs.Hanging.{weight_read}
use Rattle.deck.specs.declared.job.Summary.{Summary}
use Rattle.bearing.specs.Checks.{clash}
use Rattle.deck.specs.Whole.{case_outcome, outcomes, answered, counted, with_summary, page_done, refusal_done, content_done, job}

-- the summary of a page that is ended, by its counts; none of one that is voided
pub summed : (rows : List Row) (W : ℕ) (cases : List Numbers) (r : Result (Unit {0}) Fault) (lines : Result ℕ Fault) (sum : Result Summary Fault) →
    lines ≡ with_ok r (λ _. answered (outcomes rows W cases)) → sum ≡ with_ok lines (λ n. record { rows = length rows; cases = length cases; answered = n }) →
    sum ≡ with_summary r (counted rows (outcomes rows W cases))
summed rows W cases (Ok u) lines sum h e =
    let k : length cases ≡ length (outcomes rows W cases) = sym (length-map cases (case_outcome rows W)) in
    e ∙ ap (λ l. with_ok l (λ n. record { rows = length rows; cases = length cases; answered = n })) h
    ∙ ap (λ (n : ℕ). Ok (record { rows = length rows; cases = n; answered = answered (outcomes rows W cases) })) k
summed rows W cases (Err z) lines sum h e = e ∙ ap (λ l. with_ok l (λ n. record { rows = length rows; cases = length cases; answered = n })) h

-- an accepted sheet
accepted_as : (old : List ℕ) (R : Result Content Fault) (n w : ℕ) (rows : List Row) (cases : List Numbers) → Ok n ≡ with_ok R (λ c. length c.rows) → w ≡ weight_read R → rows ≡ rows_read R
    → cases ≡ cases_read R → page_done old rows (outcomes rows w cases) ≡ content_done old R
accepted_as old (Ok c) n w rows cases e v r k =
    ap (λ (x : List Row). page_done old x (outcomes x w cases)) r ∙ ap (λ (x : List Numbers). page_done old c.rows (outcomes c.rows w x)) k
    ∙ ap (λ (x : ℕ). page_done old c.rows (outcomes c.rows x c.cases)) v
accepted_as old (Err z) n w rows cases e v r k = absurd (clash (sym e))

-- read with 64 places for rows and 16 for cases
pub accepted : (sheet old : List ℕ) (rp cp n w : ℕ) (rows : List Row) (cases : List Numbers) → rp ≡ 64 → cp ≡ 16
    → Ok n ≡ with_ok (read_sheet rp cp sheet) (λ c. length c.rows) → w ≡ weight_read (read_sheet rp cp sheet)
    → rows ≡ rows_read (read_sheet rp cp sheet) → cases ≡ cases_read (read_sheet rp cp sheet) → page_done old rows (outcomes rows w cases) ≡ job sheet old
unfolding job
accepted sheet old rp cp n w rows cases p q e v r k =
    accepted_as old (read_sheet rp cp sheet) n w rows cases e v r k
    ∙ ap (λ (x : ℕ). content_done old (read_sheet x cp sheet)) p ∙ ap (λ (x : ℕ). content_done old (read_sheet 64 x sheet)) q

-- a refused sheet
refused_as : (old : List ℕ) (R : Result Content Fault) (f : Fault) → Err f ≡ with_ok R (λ c. length c.rows) → refusal_done old f ≡ content_done old R
refused_as old (Ok c) f e = absurd (clash e)
refused_as old (Err z) f e = let q : f ≡ z = cc in ap (refusal_done old) q

pub refused : (sheet old : List ℕ) (rp cp : ℕ) (f : Fault) → rp ≡ 64 → cp ≡ 16 → Err f ≡ with_ok (read_sheet rp cp sheet) (λ c. length c.rows) → refusal_done old f ≡ job sheet old
unfolding job
refused sheet old rp cp f p q e =
    refused_as old (read_sheet rp cp sheet) f e ∙ ap (λ (x : ℕ). content_done old (read_sheet x cp sheet)) p ∙ ap (λ (x : ℕ). content_done old (read_sheet 64 x sheet)) q
