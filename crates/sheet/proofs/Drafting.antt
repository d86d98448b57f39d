-- A sheet that is read as a draft. Assumes nothing.
use Rattle.std.proofs.Common.{◌≡◌, ℕ, ◌≤◌, min, List, [], length, Ok, Err, Result, sym, ap, ◌∙◌, arith, length-take}
use Rattle.bearing.specs.declared.fault.Fault.{Fault}
use Rattle.bearing.specs.Refusals.{with_ok}
use Rattle.sheet.specs.RowLines.{Row}
use Rattle.sheet.specs.CaseLines.{Numbers}
use Rattle.sheet.specs.Reading.{Content, read_sheet, rows_read, cases_read}
use Rattle.sheet.specs.Hanging.{hung, weight_read}
use Rattle.bearing.specs.Checks.{clash}
use Rattle.sheet.proofs.Hangs.{hung_all}

-- what a draft is, by what a reading gives
pub record Drafted (places : ℕ) (R : Result Content Fault) (result : Result ℕ Fault) (kn : ℕ) (rows : List Row) (cases : List Numbers) : Type 0 where
  pub result_is : result ≡ with_ok R (λ c. length c.rows)
  pub weight_is : kn ≡ weight_read R
  pub hung_is : rows ≡ hung places [] (rows_read R)
  pub rows_are : rows ≡ rows_read R
  pub cases_are : cases ≡ cases_read R

accepted_as : (places : ℕ) (R : Result Content Fault) (kn : ℕ) (rows : List Row) → length rows ≤ places
    → Ok kn ≡ with_ok R (λ c. c.weight) → rows ≡ rows_read R → (n : ℕ) → n ≡ length rows → (Ok n ≡ with_ok R (λ c. length c.rows)) × (kn ≡ weight_read R)
accepted_as places (Ok c) kn rows h e r n l =
    let k : n ≡ length c.rows = l ∙ ap length r in
    let w : kn ≡ c.weight = cc in
    (ap (λ (x : ℕ). Ok x) k, w)
accepted_as places (Err z) kn rows h e r n l = absurd (clash (sym e))

-- an accepted sheet, read with q places, and its rows hung
pub drafted : (q places cp : ℕ) (sheet : List ℕ) (kn kn' n : ℕ) (rows on : List Row) (cases : List Numbers) → q ≡ places → length rows ≤ places
    → Ok kn ≡ with_ok (read_sheet q cp sheet) (λ c. c.weight) → rows ≡ rows_read (read_sheet q cp sheet) → cases ≡ cases_read (read_sheet q cp sheet)
    → kn' ≡ kn → on ≡ hung places [] rows → n ≡ length rows → Drafted places (read_sheet places cp sheet) (Ok n) kn' on cases
drafted q places cp sheet kn kn' n rows on cases p h e r k w o l =
    let R : Result Content Fault = read_sheet places cp sheet in
    let e' : Ok kn ≡ with_ok R (λ c. c.weight) = e ∙ ap (λ (x : ℕ). with_ok (read_sheet x cp sheet) (λ (c : Content). c.weight)) p in
    let r' : rows ≡ rows_read R = r ∙ ap (λ (x : ℕ). rows_read (read_sheet x cp sheet)) p in
    let a = accepted_as places R kn rows h e' r' n l in
    record {
      result_is = a.0;
      weight_is = w ∙ a.1;
      hung_is = o ∙ ap (hung places []) r';
      rows_are = o ∙ hung_all places rows h ∙ r';
      cases_are = k ∙ ap (λ (x : ℕ). cases_read (read_sheet x cp sheet)) p;
    }

refused_as : (places : ℕ) (R : Result Content Fault) (f : Fault) (kn : ℕ) (on : List Row) (cases : List Numbers)
    → Err f ≡ with_ok R (λ c. c.weight) → cases ≡ cases_read R → kn ≡ 1 → on ≡ [] → Drafted places R (Err f) kn on cases
refused_as places (Ok c) f kn on cases e k w o = absurd (clash e)
refused_as places (Err z) f kn on cases e k w o =
    let q : f ≡ z = cc in
    record { result_is = ap (λ (x : Fault). Err x) q; weight_is = w; hung_is = o; rows_are = o; cases_are = k }

-- a refused sheet
pub undrafted : (q places cp : ℕ) (sheet : List ℕ) (f : Fault) (kn : ℕ) (on : List Row) (cases : List Numbers) → q ≡ places
    → Err f ≡ with_ok (read_sheet q cp sheet) (λ c. c.weight) → cases ≡ cases_read (read_sheet q cp sheet) → kn ≡ 1 → on ≡ []
    → Drafted places (read_sheet places cp sheet) (Err f) kn on cases
undrafted q places cp sheet f kn on cases p e k w o =
    refused_as places (read_sheet places cp sheet) f kn on cases
    (e ∙ ap (λ (x : ℕ). with_ok (read_sheet x cp sheet) (λ (c : Content). c.weight)) p)
    (k ∙ ap (λ (x : ℕ). cases_read (read_sheet x cp sheet)) p) w o
