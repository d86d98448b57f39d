-- The table of damping factors (AASHTO Guide Specifications 1999) and the rule that reads it. Assumes nothing.
use Rattle.std.specs.Prelude.{◌≡◌, ℕ, ◌+◌, ◌-◌, ◌*◌, ◌/◌, ◌<◌, ◌≤◌, Bool, cond, ◌&&◌, List, [], ◌∷◌, nat_le, nat_lt}
use Rattle.damping.specs.Rule.{inside}

-- a damping b in percent, and the factor B there in tenths
pub record Point : Type 0 where
  pub percent : ℕ
  pub tenths : ℕ

abbrev pub at : ℕ → ℕ → Point
at b y = record { percent = b; tenths = y }

-- B is 0.8, 1.0, 1.2, 1.5, 1.7, 1.9, 2.0 at b = 2, 5, 10, 20, 30, 40, 50
abbrev pub table : List Point
table = at 2 8 ∷ (at 5 10 ∷ (at 10 12 ∷ (at 20 15 ∷ (at 30 17 ∷ (at 40 19 ∷ (at 50 20 ∷ []))))))

-- 30 × d × the factor in tenths at b = n / d: on the straight line from the point k to the next one that
-- has b at most its percent, and past the last point as there
abbrev pub read_from : Point → List Point → ℕ → ℕ → ℕ
read_from k [] n d = 30 * (k.tenths * d)
read_from k (m ∷ rest) n d =
    cond (nat_le n (m.percent * d))
    (30 * (k.tenths * d) + 30 * (m.tenths - k.tenths) * (n - k.percent * d) / (m.percent - k.percent))
    (read_from m rest n d)

-- the same from b = 0 on: up to the first point as there
abbrev pub read_table : List Point → ℕ → ℕ → ℕ
read_table [] n d = 0
read_table (k ∷ rest) n d = cond (nat_le n (k.percent * d)) (30 * (k.tenths * d)) (read_from k rest n d)

-- X = 21,300 × P × B, where b = 4,520 × E / (71 × P): for 21,300 × P × B = 30 × (71 × P) × (10 × B)
unfoldable pub scaled_factor : ℕ → ℕ → ℕ
scaled_factor e p = read_table table (4520 * e) (71 * p)

-- P × B² is at least R, in exact arithmetic: X² is at least 21,300² × P × R
abbrev pub table_says : ℕ → ℕ → ℕ → Bool
table_says e p r = inside e p r && (nat_lt 0 p && nat_le ((21300 * r) * (21300 * p)) (scaled_factor e p * scaled_factor e p))

-- That f n d is 30 × d × the factor in tenths at b = n / d with nothing lost by rounding: between two neighbours
-- of the table its height over the line is as the distances from them, and past the last point it is as there.
abbrev pub InterpolatesFrom : (ℕ → ℕ → ℕ) → Point → List Point → Type 0
InterpolatesFrom f k [] = (n d : ℕ) → k.percent * d < n → f n d ≡ 30 * (k.tenths * d)
InterpolatesFrom f k (m ∷ rest) =
    ((n d : ℕ) → k.percent * d < n → n ≤ m.percent * d →
    f n d * (m.percent - k.percent) ≡ 30 * (k.tenths * (m.percent * d - n) + m.tenths * (n - k.percent * d)))
    × InterpolatesFrom f m rest

-- and up to the first point it is as there
abbrev pub Interpolates : (ℕ → ℕ → ℕ) → List Point → Type 0
Interpolates f [] = Unit {0}
Interpolates f (k ∷ rest) = ((n d : ℕ) → n ≤ k.percent * d → f n d ≡ 30 * (k.tenths * d)) × InterpolatesFrom f k rest

-- the table as it is read loses nothing by rounding
abbrev pub NothingLost : Type 0
NothingLost = Interpolates (read_table table) table
