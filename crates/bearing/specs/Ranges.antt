-- The ranges of a factor, of a displacement and of a force. Assumes nothing.
use Rattle.std.specs.Prelude.{ℕ, min, max, Bool, ◌&&◌, nat_le}

-- whether x lies from lo to hi
abbrev pub between : ℕ → ℕ → ℕ → Bool
between lo hi x = nat_le lo x && nat_le x hi

-- a factor, in percent: outside 50 to 300 it counts as the nearest end
abbrev pub factor : ℕ → ℕ
factor x = min 300 (max 50 x)

-- a displacement, in tenths of a millimetre: above 10,000 it counts as 10,000
abbrev pub travel : ℕ → ℕ
travel x = min 10000 x

-- the greatest force of a bearing, in newtons
abbrev pub top_force : ℕ
top_force = 100000000
