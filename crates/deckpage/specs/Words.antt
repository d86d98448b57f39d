-- The ending of a plural. Assumes nothing.
use Rattle.std.specs.Prelude.{ℕ, cond, List, [], codes, ◌==◌}

-- the ending of a word for n things
abbrev pub plural_ending : ℕ → List ℕ
plural_ending n = cond (n == 1) [] (codes "s")
