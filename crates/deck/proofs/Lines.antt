-- A page with a line for each load case, line by line. Assumes nothing.
use Rattle.std.proofs.Common.{◌≡◌, ℕ, zero, suc, ◌+◌, ◌<◌, ◌≤◌, Bool, true, false, cond, ◌||◌, ltb, leb, ◌⊎◌, List, [], ◌∷◌, ◌++◌, length, get_or, take, drop, Ok, Err, Result, sym, refl, ap, ◌∙◌, ap₂, inl, inr, add-zero, add_assoc, zero-add, arith}
use Rattle.std.proofs.lemmas.List.{at_drop_more, at_drop_all, length-append, length-take-le, length-drop}
use Rattle.std.proofs.lemmas.Bool.{cases_lt, cond-true, cond-false, lt-ltb, le-ltb}
use Rattle.bearing.specs.declared.fault.Fault.{Fault}
use Rattle.bearing.specs.declared.fault.Refusal.TheVariants.{PageFull, TooManyLines}
use Rattle.bearing.specs.declared.fault.Layer.TheVariants.{Sheet}
use Rattle.bearing.specs.Refusals.{and_then, plain_fault, with_ok}
use Rattle.either.specs.declared.Either.TheVariants.{Left}
use Rattle.loading.specs.declared.loads.Site.TheVariants.{I}
use Rattle.loading.specs.Making.{case_made}
use Rattle.bridge.specs.Outcomes.{Outcome, Answered, Refused}
use Rattle.sheet.specs.RowLines.{Row}
use Rattle.sheet.specs.CaseLines.{Numbers}
use Rattle.sheet.specs.Reading.{AllMade}
use Rattle.page.specs.Text.{written, names_line, case_line, end_line, void_line}
use Rattle.page.specs.Pages.{begun, begun_len, too_small, line_answer, closed, closed_len}
use Rattle.page.specs.Runs.{if_taken, run, page_run}
use Rattle.bearing.specs.Checks.{clash}
use Rattle.deck.specs.Whole.{case_outcome, outcomes, one_if_answered, answered, lines_answer}

-- what an element counts as past the end of the cases
abbrev pub past : Numbers
past = record { accel = 0; site = I; slo = 0; shi = 0; klo = 0; khi = 0; rule = Left (record {}) }

-- a text that ends within the bytes does not change how many there are
written_size : (b text : List ℕ) (at : ℕ) → at + length text ≤ length b → length (written b at text) ≡ length b
written_size b text at h =
    let front : length (take at b) ≡ at = length-take-le at b (omega arith) in
    omega (arith, length-append (take at b) (text ++ drop (at + length text) b), length-append text (drop (at + length text) b), length-drop (at + length text) b)

-- a line that is taken ends within the bytes
fits_by : (many small : Bool) (size n : ℕ) (e f : Fault) (u : Unit {0})
    → Ok u ≡ cond many (Err e) (cond (small || ltb size n) (Err f) (Ok tt)) → n ≤ size
fits_by true small size n e f u q = absurd (clash (sym q))
fits_by false true size n e f u q = absurd (clash (sym q))
fits_by false false size n e f u q = go (cases_lt size n)
  where
    go : (size < n) ⊎ (n ≤ size) → n ≤ size
    go (inl h) = absurd (clash (sym (q ∙ cond-true (ltb size n) (Err f) (Ok tt) (lt-ltb size n h))))
    go (inr h) = h

taken_fits : (size at count : ℕ) (text : List ℕ) (u : Unit {0}) → Ok u ≡ line_answer size at count text → at + length text + 7 ≤ size
unfolding line_answer
taken_fits size at count text u q = fits_by (leb 99 count) (too_small size) size (at + length text + 7) (plain_fault TooManyLines Sheet) (plain_fault PageFull Sheet) u q

begun_size : (old : List ℕ) → length (begun old) ≡ length old
unfolding names_line
begun_size old = go (cases_lt (length old) 51)
  where
    go : (length old < 51) ⊎ (51 ≤ length old) → length (begun old) ≡ length old
    go (inl h) = ap length (cond-true (too_small (length old)) old (written old 0 names_line) (lt-ltb (length old) 51 h))
    go (inr h) = ap length (cond-false (too_small (length old)) old (written old 0 names_line) (le-ltb (length old) 51 h)) ∙ written_size old names_line 0 (omega arith)

-- what the outcomes that are left come to, from a page with at bytes and count lines and with n answered cases behind it:
-- the bytes and how many are written, and how many cases are answered in all, or the first refusal of a line
abbrev pub to_end : List ℕ → ℕ → ℕ → ℕ → List Outcome → (List ℕ × ℕ) × Result ℕ Fault
to_end b at count n os = (run b at count os, with_ok (lines_answer (length b) at count os) (λ _. n + answered os))

-- the same of a whole page
abbrev pub whole_end : List ℕ → List Outcome → (List ℕ × ℕ) × Result ℕ Fault
whole_end old os = (page_run old os, with_ok (lines_answer (length old) (begun_len (length old)) 0 os) (λ _. answered os))

-- a page just begun
pub end_begun : (old b : List ℕ) (at count : ℕ) (os : List Outcome) → b ≡ begun old → at ≡ begun_len (length old) → count ≡ 0 → to_end b at count 0 os ≡ whole_end old os
end_begun old b at count os e l k =
    ap (λ (x : List ℕ). to_end x at count 0 os) e ∙ ap (λ (x : ℕ). to_end (begun old) x count 0 os) l ∙ ap (λ (x : ℕ). to_end (begun old) (begun_len (length old)) x 0 os) k
    ∙ ap (λ (x : ℕ). (page_run old os, with_ok (lines_answer x (begun_len (length old)) 0 os) (λ (u : Unit {0}). 0 + answered os))) (begun_size old)
    ∙ ap (λ (x : ℕ). (page_run old os, with_ok (lines_answer (length old) (begun_len (length old)) 0 os) (λ (u : Unit {0}). x))) (zero-add (answered os))

-- a line that is taken
step_taken : (b : List ℕ) (at count n : ℕ) (o : Outcome) (os : List Outcome) (u : Unit {0}) → Ok u ≡ line_answer (length b) at count (case_line (count + 1) o)
    → to_end (written b at (case_line (count + 1) o)) (at + length (case_line (count + 1) o)) (count + 1) (n + one_if_answered o) os ≡ to_end b at count n (o ∷ os)
step_taken b at count n o os u a =
    let t : List ℕ = case_line (count + 1) o in
    let fits : at + length t ≤ length b = omega (arith, taken_fits (length b) at count t u a) in
    let more : Result (Unit {0}) Fault = lines_answer (length b) (at + length t) (count + 1) os in
    ap₂ (λ (x : List ℕ × ℕ) (y : Result ℕ Fault). (x, y))
    (ap (λ (x : Result (Unit {0}) Fault). if_taken x (run (written b at t) (at + length t) (count + 1) os) (closed b at void_line, closed_len (length b) at void_line)) a)
    (ap (λ (x : ℕ). with_ok (lines_answer x (at + length t) (count + 1) os) (λ (v : Unit {0}). n + one_if_answered o + answered os)) (written_size b t at fits)
    ∙ ap (λ (x : ℕ). with_ok more (λ (v : Unit {0}). x)) (add_assoc n (one_if_answered o) (answered os))
    ∙ ap (λ (x : Result (Unit {0}) Fault). with_ok (and_then x (λ (v : Unit {0}). more)) (λ (v : Unit {0}). n + (one_if_answered o + answered os))) a)

-- a line that is refused, and the void line
step_voided : (b : List ℕ) (at count n : ℕ) (o : Outcome) (os : List Outcome) (f : Fault) → Err f ≡ line_answer (length b) at count (case_line (count + 1) o)
    → ◌≡◌ {A = (List ℕ × ℕ) × Result ℕ Fault} ((closed b at void_line, closed_len (length b) at void_line), Err f) (to_end b at count n (o ∷ os))
step_voided b at count n o os f a =
    let t : List ℕ = case_line (count + 1) o in
    ap (λ (x : Result (Unit {0}) Fault). (
      if_taken x (run (written b at t) (at + length t) (count + 1) os) (closed b at void_line, closed_len (length b) at void_line),
      with_ok (and_then x (λ (v : Unit {0}). lines_answer (length b) (at + length t) (count + 1) os)) (λ (v : Unit {0}). n + (one_if_answered o + answered os)),
    )) a

-- a result by the answer to a line: the line is taken, and how many cases it answers
pub ok_by : (r : Result (Unit {0}) Fault) (k m : ℕ) → Ok k ≡ with_ok r (λ _. m) → (Ok tt ≡ r) × (k ≡ m)
ok_by (Ok u) k m e = let q : k ≡ m = cc in (refl, q)
ok_by (Err z) k m e = absurd (clash (sym e))

pub err_by : (r : Result (Unit {0}) Fault) (f : Fault) (m : ℕ) → Err f ≡ with_ok r (λ _. m) → Err f ≡ r
err_by (Ok u) f m e = absurd (clash e)
err_by (Err z) f m e = cc

pub one_at_most : (o : Outcome) → one_if_answered o ≤ 1
one_at_most (Answered v) = omega arith
one_at_most (Refused k) = omega arith

-- each case of a list that is made is one that can be made
pub made_at : (cases : List Numbers) (i : ℕ) (d : Numbers) → AllMade cases → i < length cases → case_made (get_or cases i d) ≡ Ok (get_or cases i d)
made_at [] i d h l = absurd (omega arith)
made_at (n ∷ ns) zero d h l = h.0
made_at (n ∷ ns) (suc i) d h l = made_at ns i d h.1 (omega arith)

module _ (rows : List Row) (W : ℕ) where
  -- one turn: the line of the case at the place i is taken
  pub turn_taken : (b b' : List ℕ) (at at' count count' n k i : ℕ) (cases : List Numbers) (d : Numbers) → i < length cases
      → Ok k ≡ with_ok (line_answer (length b) at count (case_line (count + 1) (case_outcome rows W (get_or cases i d)))) (λ _. one_if_answered (case_outcome rows W (get_or cases i d)))
      → b' ≡ written b at (case_line (count + 1) (case_outcome rows W (get_or cases i d)))
      → at' ≡ at + length (case_line (count + 1) (case_outcome rows W (get_or cases i d))) → count' ≡ count + 1
      → to_end b' at' count' (n + k) (outcomes rows W (drop (i + 1) cases)) ≡ to_end b at count n (outcomes rows W (drop i cases))
  turn_taken b b' at at' count count' n k i cases d h a e l c =
      let o : Outcome = case_outcome rows W (get_or cases i d) in
      let t : List ℕ = case_line (count + 1) o in
      let os : List Outcome = outcomes rows W (drop (i + 1) cases) in
      let p = ok_by (line_answer (length b) at count t) k (one_if_answered o) a in
      ap (λ (x : List ℕ). to_end x at' count' (n + k) os) e ∙ ap (λ (x : ℕ). to_end (written b at t) x count' (n + k) os) l
      ∙ ap (λ (x : ℕ). to_end (written b at t) (at + length t) x (n + k) os) c
      ∙ ap (λ (x : ℕ). to_end (written b at t) (at + length t) (count + 1) (n + x) os) p.1
      ∙ step_taken b at count n o os tt p.0
      ∙ sym (at_drop_more (λ (l : List Numbers). to_end b at count n (outcomes rows W l)) cases i d h)

  -- the line of the case at the place i is refused, and the page is voided
  pub turn_voided : (b b' : List ℕ) (at at' count n i : ℕ) (cases : List Numbers) (d : Numbers) (f : Fault) → i < length cases
      → Err f ≡ with_ok (line_answer (length b) at count (case_line (count + 1) (case_outcome rows W (get_or cases i d)))) (λ _. one_if_answered (case_outcome rows W (get_or cases i d)))
      → b' ≡ b → at' ≡ at
      → ◌≡◌ {A = (List ℕ × ℕ) × Result ℕ Fault} ((closed b' at' void_line, closed_len (length b') at' void_line), Err f) (to_end b at count n (outcomes rows W (drop i cases)))
  turn_voided b b' at at' count n i cases d f h a e l =
      let o : Outcome = case_outcome rows W (get_or cases i d) in
      let q = err_by (line_answer (length b) at count (case_line (count + 1) o)) f (one_if_answered o) a in
      ap (λ (x : List ℕ). ((closed x at' void_line, closed_len (length x) at' void_line), Err f)) e
      ∙ ap (λ (x : ℕ). ((closed b x void_line, closed_len (length b) x void_line), Err f)) l
      ∙ step_voided b at count n o (outcomes rows W (drop (i + 1) cases)) f q
      ∙ sym (at_drop_more (λ (l : List Numbers). to_end b at count n (outcomes rows W l)) cases i d h)

  -- no case is left, and the page is ended
  pub turns_ended : (b : List ℕ) (at count n i : ℕ) (cases : List Numbers) → length cases ≤ i
      → ◌≡◌ {A = (List ℕ × ℕ) × Result ℕ Fault} ((closed b at (end_line count), closed_len (length b) at (end_line count)), Ok n) (to_end b at count n (outcomes rows W (drop i cases)))
  turns_ended b at count n i cases h =
      ap (λ (x : ℕ). ((closed b at (end_line count), closed_len (length b) at (end_line count)), Ok x)) (sym (add-zero n))
      ∙ sym (at_drop_all (λ (l : List Numbers). to_end b at count n (outcomes rows W l)) cases i h)
