-- One line of a sheet, by what it changes: where the reader stands, the rows, or the cases. Assumes nothing.
use Rattle.std.proofs.Common.{◌≡◌, ℕ, ◌≤◌, Bool, true, false, not, List, [], ◌∷◌, length, get_or, Ok, Err, ◌&&◌, ◌==◌, codes, Result, sym, refl, ap, ◌∙◌, arith}
use Rattle.std.specs.Cmp.Lexicographic.{pointwise}
use Rattle.std.proofs.lemmas.Bool.{cond-true, cond-false}
use Rattle.std.proofs.lemmas.Bool.Decides.{nat_tests}
use Rattle.bearing.specs.declared.fault.Fault.{Fault}
use Rattle.bearing.specs.Refusals.{with_ok}
use Rattle.sheet.specs.Parts.{begins, is_text}
use Rattle.sheet.specs.RowLines.{names_fault}
use Rattle.sheet.specs.Machine.{Standing, State, named_as, step, after, answer}

answer_with : {S T : Type 0} (r : Result S Fault) (f : S → T) → answer (with_ok r f) ≡ answer r
answer_with (Ok x) f = refl
answer_with (Err e) f = refl

after_with : {S T : Type 0} (r : Result S Fault) (f : S → T) (s : S) → after (with_ok r f) (f s) ≡ f (after r s)
after_with (Ok x) f s = refl
after_with (Err e) f s = refl

-- what a line of the sheet did, where it is the change f of a part
pub record Taken (row_places case_places : ℕ) (st : State) (line : List ℕ) (r : Result (Unit {0}) Fault) (next : State) : Type 0 where
  pub result : r ≡ answer (step row_places case_places st line)
  pub state : next ≡ after (step row_places case_places st line) st

pub changed : {S : Type 0} (row_places case_places : ℕ) (st : State) (line : List ℕ) (x : Result S Fault) (f : S → State) (s : S) → st ≡ f s →
    step row_places case_places st line ≡ with_ok x f → (r : Result (Unit {0}) Fault) (s' : S) → r ≡ answer x → s' ≡ after x s → Taken row_places case_places st line r (f s')
changed row_places case_places st line x f s whole is r s' e e' =
    record {
      result = e ∙ sym (ap answer is ∙ answer_with x f);
      state = ap f e' ∙ sym (ap (λ (y : Result State Fault). after y st) is ∙ ap (λ t. after (with_ok x f) t) whole ∙ after_with x f s);
    }

not_back : (b t : Bool) → not b ≡ t → b ≡ not t
not_back true true e = sym e
not_back true false e = refl
not_back false true e = refl
not_back false false e = sym e

-- what a comparison of two texts says
compared : (line text : List ℕ) → pointwise (λ a b. a == b) line text ≡ is_text text line
compared [] [] = refl
compared [] (x ∷ xs) = refl
compared (y ∷ ys) [] = refl
compared (y ∷ ys) (x ∷ xs) = ap (λ t. y == x && t) (compared ys xs)

-- a names line, by the comparison with its text
pub named_not : (text line : List ℕ) (next : Standing) → true ≡ not (pointwise (λ a b. a == b) line text) → named_as text next line ≡ Err names_fault
named_not text line next e = cond-false (is_text text line) _ _ (sym (compared line text) ∙ not_back (pointwise (λ a b. a == b) line text) true (sym e))

pub named_so : (text line : List ℕ) (next : Standing) → false ≡ not (pointwise (λ a b. a == b) line text) → named_as text next line ≡ Ok next
named_so text line next e = cond-true (is_text text line) _ _ (sym (compared line text) ∙ not_back (pointwise (λ a b. a == b) line text) false (sym e))

-- a line that begins with `case`
pub begins_case : (line : List ℕ) → 4 ≤ length line → get_or line 0 0 ≡ 99 → get_or line 1 0 ≡ 97 → get_or line 2 0 ≡ 115 → get_or line 3 0 ≡ 101 → begins (codes "case") line ≡ true
begins_case [] l a b c d = absurd (omega arith)
begins_case (w ∷ []) l a b c d = absurd (omega arith)
begins_case (w ∷ (x ∷ [])) l a b c d = absurd (omega arith)
begins_case (w ∷ (x ∷ (y ∷ []))) l a b c d = absurd (omega arith)
begins_case (w ∷ (x ∷ (y ∷ (z ∷ more)))) l a b c d = simp (a, b, c, d)

-- a row line does not
pub begins_row : (line : List ℕ) → 2 ≤ length line → get_or line 1 0 ≡ 44 → begins (codes "case") line ≡ false
begins_row [] l c = absurd (omega arith)
begins_row (x ∷ []) l c = absurd (omega arith)
begins_row (x ∷ (y ∷ more)) l c = grind (arith, nat_tests)
