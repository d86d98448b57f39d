-- Row and case lines, step by step. Assumes nothing.
use Rattle.std.proofs.Common.{◌≡◌, ℕ, ◌+◌, ◌<◌, ◌≤◌, Bool, cond, List, ◌∷◌, Ok, Err, ap, ◌∙◌, arith, eq-eqb}
use Rattle.std.specs.Option.{ok_or}
use Rattle.std.proofs.lemmas.Bool.Decides.{nat_tests}
use Rattle.bearing.specs.declared.fault.Layer.TheVariants.{Sheet}
use Rattle.bearing.specs.Refusals.{out_of_range, and_then, at_field}
use Rattle.loading.specs.Making.{case_made}
use Rattle.sheet.specs.RowLines.{unused_zero, form_fault}
use Rattle.sheet.specs.CaseLines.{Numbers, case_form, case_of, case_line}

pub unused_own : (own j x : ℕ) (xs : List ℕ) → j < own → unused_zero own j (x ∷ xs) ≡ unused_zero own (j + 1) xs
unused_own own j x xs h = grind (arith, nat_tests)

pub unused_none : (own j x : ℕ) (xs : List ℕ) → x ≤ 0 → unused_zero own j (x ∷ xs) ≡ unused_zero own (j + 1) xs
unused_none own j x xs h = grind (arith, nat_tests)

-- a case line of the form, with the number that is due
pub case_is : (text : List ℕ) (n number : ℕ) (numbers : Numbers) → ok_or (case_form text) form_fault ≡ Ok (number, numbers) → number ≡ n → case_line n text ≡ at_field 1 (case_made numbers)
case_is text n number numbers e same =
    ap (λ r. and_then r (case_of n)) e
    ∙ ap (λ (b : Bool). and_then {S = Unit {0}} (cond b (Ok tt) (Err (out_of_range Sheet 1))) (λ _. at_field 1 (case_made numbers))) (eq-eqb number n same)
