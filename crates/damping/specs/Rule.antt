-- What a damping rule is asked, and the two laws that every rule keeps. Assumes nothing.
use Rattle.std.specs.Prelude.{◌≡◌, ℕ, ◌≤◌, Bool, true, false, ◌&&◌, nat_le}

-- a yes or no to the energy E, the product P of displacement and force (both newtons times tenths of a millimetre)
-- and the demand R (the same unit)
abbrev pub Says : Type 0
Says = ℕ → ℕ → ℕ → Bool

-- the ranges: E at most P, P at most 64,000,000,000,000, and R from 1 to 20,000,000,000,000
abbrev pub inside : ℕ → ℕ → ℕ → Bool
inside e p r = nat_le e p && (nat_le p 64000000000000 && (nat_le 1 r && nat_le r 20000000000000))

pub record RuleLaws (says : Says) : Type 0 where
  -- where P is 0 it says no
  pub none_at_rest : (e r : ℕ) → says e 0 r ≡ false
  -- inside the ranges a yes stays a yes when E or P grows or R falls
  pub stays : (e p r e' p' r' : ℕ) → inside e p r ≡ true → inside e' p' r' ≡ true → e ≤ e' → p ≤ p' → r' ≤ r → says e p r ≡ true → says e' p' r' ≡ true
