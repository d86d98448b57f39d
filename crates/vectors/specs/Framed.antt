-- How sheets stand one after another in one input. Assumes nothing.
use Rattle.std.specs.Prelude.{ℕ, cond, List, length, take, drop, Some, None, Option, nat_lt}
use Rattle.sheet.specs.Numbers.{option_then, parsed}
use Rattle.sheet.specs.Parts.{first, rest}

-- the first sheet and what follows it: a line with its length, then so many bytes
abbrev pub next_framed : List ℕ → Option (List ℕ × List ℕ)
next_framed text =
    option_then (parsed (first 10 text)) (λ n.
    option_then (rest 10 text) (λ bytes.
    cond (nat_lt (length bytes) n) None (Some (take n bytes, drop n bytes))))
