-- Numbers on a sheet. Assumes nothing.
use Rattle.std.specs.Prelude.{ℕ, zero, suc, ◌+◌, ◌-◌, ◌*◌, cond, List, [], ◌∷◌, length, Some, None, Option, ◌==◌, nat_lt}
use Rattle.sheet.specs.Parts.{first, rest}

-- one step after another: absent where one is
abbrev pub option_then : {S T : Type 0} → Option S → (S → Option T) → Option T
option_then None f = None
option_then (Some x) f = f x

-- the number that decimal digits go on to write after n; absent where a byte is no digit
abbrev pub digits_from : ℕ → List ℕ → Option ℕ
digits_from n [] = Some n
digits_from n (b ∷ bs) = cond (nat_lt b 48) None (cond (nat_lt 57 b) None (digits_from (n * 10 + (b - 48)) bs))

-- the number in a field: 1 to 7 digits, and no leading zero but 0 itself
abbrev pub parsed : List ℕ → Option ℕ
parsed [] = None
parsed (b ∷ bs) = cond (nat_lt 7 (length (b ∷ bs))) None (cond (b == 48) (cond (nat_lt 1 (length (b ∷ bs))) None (Some 0)) (digits_from 0 (b ∷ bs)))

-- what the first field holds, a comma, and the rest of the line
abbrev pub field_then : {T : Type 0} → Option T → List ℕ → Option (T × List ℕ)
field_then held text = option_then held (λ x. option_then (rest 44 text) (λ more. Some (x, more)))

-- a number, a comma, and the rest of the line
abbrev pub number_field : List ℕ → Option (ℕ × List ℕ)
number_field text = field_then (parsed (first 44 text)) text

abbrev pub cons_if : Option ℕ → Option (List ℕ) → Option (List ℕ)
cons_if None o = None
cons_if (Some n) None = None
cons_if (Some n) (Some ns) = Some (n ∷ ns)

-- the numbers of exactly n fields
abbrev pub sized : ℕ → List (List ℕ) → Option (List ℕ)
sized zero [] = Some []
sized zero (f ∷ fs) = None
sized (suc n) [] = None
sized (suc n) (f ∷ fs) = cons_if (parsed f) (sized n fs)
