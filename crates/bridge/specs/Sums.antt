-- The rows of a bridge, each with factors of its own, and what they come to at a displacement. Assumes nothing.
use Rattle.std.specs.Prelude.{ℕ, zero, suc, ◌+◌, ◌*◌, Bool, List, [], ◌∷◌}
use Rattle.bearing.specs.Laws.{Curve}

-- a strength factor and a stiffness factor, in percent
pub record Factors : Type 0 where
  pub s : ℕ
  pub k : ℕ

-- factors for each row, by its place counted from 0
abbrev pub Choice : Type 0
Choice = ℕ → Factors

-- the same factors for every row
abbrev pub all_at : ℕ → ℕ → Choice
all_at s k _ = record { s = s; k = k }

-- one row's force or energy, by its place; 0 where no row is
unfoldable pub at_row : {B : Type 0} → (B → Curve) → List B → Choice → ℕ → ℕ → ℕ
at_row q [] φ i d = 0
at_row q (b ∷ bs) φ zero d = q b (φ 0).s (φ 0).k d
at_row q (b ∷ bs) φ (suc i) d = at_row q bs (λ j. φ (suc j)) i d

-- the sum of a force or an energy over the rows
unfoldable pub total : {B : Type 0} → (B → Curve) → List B → Choice → ℕ → ℕ
total q [] φ d = 0
total q (b ∷ bs) φ d = q b (φ 0).s (φ 0).k d + total q bs (λ j. φ (suc j)) d

-- the demand R is met at d: the rule says yes to E, P = d × F and R
unfoldable pub met : {B : Type 0} → (force energy : B → Curve) → (says : ℕ → ℕ → ℕ → Bool) → List B → Choice → ℕ → ℕ → Bool
met force energy says rows φ R d = says (total energy rows φ d) (d * total force rows φ d) R
