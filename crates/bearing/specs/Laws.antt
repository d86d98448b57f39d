-- What every bearing keeps: four laws, and nothing else. Assumes nothing.
use Rattle.std.specs.Prelude.{◌≡◌, ℕ, ◌*◌, ◌≤◌}
use Rattle.bearing.specs.Ranges.{top_force}

-- a number for a strength factor s, a stiffness factor k (percent) and a displacement d (tenths of a millimetre)
abbrev pub Curve : Type 0
Curve = ℕ → ℕ → ℕ → ℕ

-- it never falls when s, k or d grows
abbrev pub Grows : Curve → Type 0
Grows f = (s s' k k' d d' : ℕ) → s ≤ s' → k ≤ k' → d ≤ d' → f s k d ≤ f s' k' d'

-- of the force f (newtons) and the energy e (newtons times tenths of a millimetre) of one bearing
pub record Laws (f e : Curve) : Type 0 where
  -- at rest both are 0
  pub force_rests : (s k : ℕ) → f s k 0 ≡ 0
  pub energy_rests : (s k : ℕ) → e s k 0 ≡ 0
  -- each grows with s, k and d
  pub force_grows : Grows f
  pub energy_grows : Grows e
  -- the energy is at most that of the force over the whole displacement
  pub energy_bound : (s k d : ℕ) → e s k d ≤ d * f s k d
  -- the force is limited
  pub force_limit : (s k d : ℕ) → f s k d ≤ top_force
