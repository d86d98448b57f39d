-- Lines and fields: the parts of a text between marks. Assumes nothing.
use Rattle.std.specs.Prelude.{ℕ, suc, Bool, true, false, cond, ◌&&◌, List, [], ◌∷◌, length, take, drop, Some, None, Option, ◌==◌, nat_lt}

-- how many bytes stand before the first mark; all of them where there is none
abbrev pub before : ℕ → List ℕ → ℕ
before m [] = 0
before m (x ∷ xs) = cond (x == m) 0 (suc (before m xs))

-- the first part
abbrev pub first : ℕ → List ℕ → List ℕ
first m xs = take (before m xs) xs

-- what follows the first mark, if there is one
abbrev pub rest : ℕ → List ℕ → Option (List ℕ)
rest m xs = cond (nat_lt (before m xs) (length xs)) (Some (drop (suc (before m xs)) xs)) None

abbrev pub on_first : ℕ → List (List ℕ) → List (List ℕ)
on_first x [] = (x ∷ []) ∷ []
on_first x (f ∷ fs) = (x ∷ f) ∷ fs

-- the parts of a text between marks: one more than there are marks
abbrev pub parts : ℕ → List ℕ → List (List ℕ)
parts m [] = [] ∷ []
parts m (x ∷ xs) = cond (x == m) ([] ∷ parts m xs) (on_first x (parts m xs))

-- the parts of what may follow
abbrev pub parts_of : ℕ → Option (List ℕ) → List (List ℕ)
parts_of m None = []
parts_of m (Some xs) = parts m xs

-- the fields of a line, parted by one comma each
abbrev pub fields : List ℕ → List (List ℕ)
fields line = parts 44 line

-- whether a line begins with a text
abbrev pub begins : List ℕ → List ℕ → Bool
begins [] line = true
begins (x ∷ xs) [] = false
begins (x ∷ xs) (y ∷ ys) = y == x && begins xs ys

-- whether a line is a text
abbrev pub is_text : List ℕ → List ℕ → Bool
is_text [] [] = true
is_text [] (y ∷ ys) = false
is_text (x ∷ xs) [] = false
is_text (x ∷ xs) (y ∷ ys) = y == x && is_text xs ys
