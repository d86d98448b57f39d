-- How long lines are, and the number of an answer.
use Rattle.std.proofs.Common.{◌≡◌, ℕ, ◌≤◌, length, Ok, Err, Result, refl, arith}
use Rattle.std.proofs.lemmas.Fmt.{length-decimal-le}
use Rattle.std.proofs.lemmas.List.{length-append}
use Rattle.bearing.specs.declared.fault.Fault.{Fault}
use Rattle.bearing.specs.Refusals.{refusal_number}
use Rattle.bridge.specs.declared.replies.Answer.{Answer}
use Rattle.bridge.specs.Outcomes.{outcome, outcome_number}
use Rattle.page.specs.Text.{end_line}

-- an end line of a page takes at most 7 bytes
pub end_fits : (count : ℕ) → count ≤ 99 → length (end_line count) ≤ 7
unfolding end_line
end_fits count h = grind (arith, length-append, length-decimal-le 2 count)

-- the number of a case's answer, by the answer or by what it comes to
pub number_is : (r : Result Answer Fault) → refusal_number r ≡ outcome_number (outcome r)
number_is (Ok a) = refl
number_is (Err e) = refl
