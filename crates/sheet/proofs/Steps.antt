-- Decimal digits, one by one. Assumes nothing.
use Rattle.std.proofs.Common.{◌≡◌, ℕ, ◌+◌, ◌-◌, ◌*◌, ◌≤◌, List, ◌∷◌, arith}
use Rattle.std.proofs.lemmas.Bool.Decides.{nat_tests}
use Rattle.sheet.specs.Numbers.{digits_from}

pub digits_step : (n b : ℕ) (bs : List ℕ) → 48 ≤ b → b ≤ 57 → digits_from n (b ∷ bs) ≡ digits_from (n * 10 + (b - 48)) bs
digits_step n b bs h k = grind (arith, nat_tests)
