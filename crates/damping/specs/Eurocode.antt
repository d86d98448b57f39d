-- The rule of EN 1998-1: the response is reduced by √(10 / (5 + b)), never below 0.55, at a damping of b percent. Assumes nothing.
use Rattle.std.specs.Prelude.{ℕ, ◌+◌, ◌*◌, Bool, ◌&&◌, nat_le, nat_lt}
use Rattle.damping.specs.Rule.{inside}

-- with b = 4,520 × E / (71 × P): P × (5 + b) / 10 is at least R, and P / 0.55² is at least R
abbrev pub eurocode_says : ℕ → ℕ → ℕ → Bool
eurocode_says e p r = inside e p r && (nat_lt 0 p && (nat_le (710 * r) (355 * p + 4520 * e) && nat_le (121 * r) (400 * p)))
