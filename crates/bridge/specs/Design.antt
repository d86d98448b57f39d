-- The design displacement: the least d from 1 to 10,000 tenths of a millimetre at which the demand is met. Assumes nothing.
use Rattle.std.specs.Prelude.{◌≡◌, ℕ, zero, suc, ◌+◌, ◌<◌, ◌≤◌, Bool, true, false, cond, Some, None, Option}

-- d is the design displacement: it meets, and none before it does
pub record Design (meets : ℕ → Bool) (d : ℕ) : Type 0 where
  pub from_one : 1 ≤ d
  pub to_last : d ≤ 10000
  pub passed : meets d ≡ true
  pub first : (c : ℕ) → 1 ≤ c → c < d → meets c ≡ false

-- no d from 1 to 10,000 meets
abbrev pub Absent : (ℕ → Bool) → Type 0
Absent meets = (d : ℕ) → 1 ≤ d → d ≤ 10000 → meets d ≡ false

-- the first of n numbers from d on that meets
unfoldable pub first_from : (ℕ → Bool) → ℕ → ℕ → Option ℕ
first_from meets zero d = None
first_from meets (suc n) d = cond (meets d) (Some d) (first_from meets n (d + 1))

-- the design displacement, which may be absent
unfoldable pub design : (ℕ → Bool) → Option ℕ
design meets = first_from meets 10000 1
