-- A text and its first part. Assumes nothing.
use Rattle.std.proofs.Common.{◌≡◌, ℕ, suc, ◌<◌, ◌≤◌, Bool, true, false, cond, eqb, ◌==◌, ltb, List, [], ◌∷◌, length, drop, Some, None, refl, ap, arith, ltb-true, ltb-false, lt-ltb, unwrap_or}
use Rattle.std.specs.List.{position_or_len}
use Rattle.std.proofs.lemmas.List.Recursion.{is_position_or_len}
use Rattle.std.proofs.lemmas.List.{length-drop}
use Rattle.std.proofs.lemmas.Bool.Decides.{nat_tests}
use Rattle.sheet.specs.Parts.{before, parts, first, rest, parts_of}

pub before_le : (m : ℕ) (xs : List ℕ) → before m xs ≤ length xs
before_le m [] = omega arith
before_le m (x ∷ xs) = let h = before_le m xs in grind (arith, nat_tests)

pub before_is : (m : ℕ) (xs : List ℕ) → before m xs ≡ position_or_len (λ x. x == m) xs
before_is m xs = is_position_or_len (before m) (λ x. x == m) refl (λ x ys. ap (λ (n : ℕ). cond (x == m) 0 n) (omega arith)) xs

-- a place that is found, or else all
pub found_or_all : (k n : ℕ) → k ≤ n → unwrap_or (cond (ltb k n) (Some k) None) n ≡ k
found_or_all k n h = go (ltb k n) refl
  where
    go : (t : Bool) → ltb k n ≡ t → unwrap_or (cond t (Some k) None) n ≡ k
    go true e = refl
    go false e = omega (arith, ltb-false k n e)

shift : (a b : ℕ) → ltb (suc a) (suc b) ≡ ltb a b
shift a b = grind (arith, nat_tests)

-- the first part stands before the parts of what follows the first mark
cut_at : (m x : ℕ) (ys : List ℕ) (t : Bool) → eqb x m ≡ t → parts m ys ≡ first m ys ∷ parts_of m (rest m ys) → parts m (x ∷ ys) ≡ first m (x ∷ ys) ∷ parts_of m (rest m (x ∷ ys))
cut_at m x ys true e ih = let z : ltb 0 (suc (length ys)) ≡ true = lt-ltb 0 (suc (length ys)) (omega arith) in simp (e, z)
cut_at m x ys false e ih = simp (e, ih, shift)

pub parts_cut : (m : ℕ) (xs : List ℕ) → parts m xs ≡ first m xs ∷ parts_of m (rest m xs)
parts_cut m [] = refl
parts_cut m (x ∷ ys) = cut_at m x ys (eqb x m) refl (parts_cut m ys)

shorter_at : (xs ys : List ℕ) (k : ℕ) (t : Bool) → ltb k (length xs) ≡ t → Some ys ≡ cond t (Some (drop (suc k) xs)) None → length ys < length xs
shorter_at xs ys k true e q = let d : ys ≡ drop (suc k) xs = cc in let h = ltb-true k (length xs) e in simp (d, length-drop) (omega arith)
shorter_at xs ys k false e q = let z : ◌≡◌ {A = ℕ} 0 1 = cc in omega arith

pub shorter : (m : ℕ) (xs ys : List ℕ) → Some ys ≡ rest m xs → length ys < length xs
shorter m xs ys e = shorter_at xs ys (before m xs) (ltb (before m xs) (length xs)) refl e
