-- Parts of a text, put together again. Assumes nothing.
use Rattle.std.proofs.Common.{◌≡◌, ℕ, ◌<◌, ◌≤◌, Bool, true, false, cond, eqb, List, [], ◌∷◌, ◌++◌, length, Some, None, decimal, Option, sym, refl, ap, ◌∙◌, arith, rules}
use Rattle.std.specs.Str.Parse.{AllDigits}
use Rattle.std.specs.Int.{IsInRange}
use Rattle.std.specs.List.{AllByRecursion}
use Rattle.std.proofs.lemmas.Fmt.{decimal_is_IsNumeral, length-decimal-le}
use Rattle.std.proofs.lemmas.Str.Parse.{digit_from_value}
use Rattle.std.proofs.lemmas.Bool.{eqb-true, ne_eqb}
use Rattle.sheet.specs.Parts.{first, rest, on_first, parts, parts_of}
use Rattle.sheet.specs.Text.{parted, ended}
use Rattle.sheet.proofs.Cuts.{parts_cut}

-- a text without a mark
abbrev pub Free : ℕ → List ℕ → Type 0
Free m xs = AllByRecursion (λ x. eqb x m ≡ false) xs

-- the parts of a text, parted by the mark, are the text
parted_more : (m x : ℕ) (fs : List (List ℕ)) → parted m (on_first x fs) ≡ x ∷ parted m fs
parted_more m x [] = refl
parted_more m x (f ∷ []) = refl
parted_more m x (f ∷ (g ∷ fs)) = refl

parted_next : (m : ℕ) (xs : List ℕ) → parted m ([] ∷ parts m xs) ≡ m ∷ parted m (parts m xs)
parted_next m xs = ap (λ fs. parted m ([] ∷ fs)) (parts_cut m xs) ∙ sym (ap (λ fs. m ∷ parted m fs) (parts_cut m xs))

parted_at : (m x : ℕ) (xs : List ℕ) (b : Bool) → eqb x m ≡ b → parted m (parts m xs) ≡ xs → parted m (cond b ([] ∷ parts m xs) (on_first x (parts m xs))) ≡ x ∷ xs
parted_at m x xs true e ih = let q : x ≡ m = eqb-true x m e in parted_next m xs ∙ ap (λ ys. m ∷ ys) ih ∙ ap (λ (y : ℕ). y ∷ xs) (sym q)
parted_at m x xs false e ih = parted_more m x (parts m xs) ∙ ap (λ ys. x ∷ ys) ih

pub parted_parts : (m : ℕ) (xs : List ℕ) → parted m (parts m xs) ≡ xs
parted_parts m [] = refl
parted_parts m (x ∷ xs) = parted_at m x xs (eqb x m) refl (parted_parts m xs)

-- the parts of texts that are parted by a mark which none of them has, are those texts
pub parts_free : (m : ℕ) (a : List ℕ) → Free m a → parts m a ≡ a ∷ []
parts_free m [] h = refl
parts_free m (x ∷ xs) h = ap (λ b. cond b ([] ∷ parts m xs) (on_first x (parts m xs))) h.0 ∙ ap (on_first x) (parts_free m xs h.1)

same_mark : (m : ℕ) (xs : List ℕ) → parts m (m ∷ xs) ≡ [] ∷ parts m xs
same_mark m xs = let e : eqb m m ≡ true = search rules in ap (λ b. cond b ([] ∷ parts m xs) (on_first m (parts m xs))) e

pub parts_next : (m : ℕ) (a b : List ℕ) → Free m a → parts m (a ++ (m ∷ b)) ≡ a ∷ parts m b
parts_next m [] b h = same_mark m b
parts_next m (x ∷ xs) b h = ap (λ t. cond t ([] ∷ parts m (xs ++ (m ∷ b))) (on_first x (parts m (xs ++ (m ∷ b))))) h.0 ∙ ap (on_first x) (parts_next m xs b h.1)

pub parts_parted : (m : ℕ) (f : List ℕ) (fs : List (List ℕ)) → AllByRecursion (Free m) (f ∷ fs) → parts m (parted m (f ∷ fs)) ≡ f ∷ fs
parts_parted m f [] h = parts_free m f h.0
parts_parted m f (g ∷ gs) h = parts_next m f (parted m (g ∷ gs)) h.0 ∙ ap (λ hs. f ∷ hs) (parts_parted m g gs h.1)

-- lines, each with its end, and the empty part after the last end
pub parts_ended : (ls : List (List ℕ)) → AllByRecursion (Free 10) ls → parts 10 (ended ls) ≡ ls ++ ([] ∷ [])
parts_ended [] h = refl
parts_ended (l ∷ ls) h = parts_next 10 l (ended ls) h.0 ∙ ap (λ ms. l ∷ ms) (parts_ended ls h.1)

some_after : (m : ℕ) (l : List ℕ) (ls : List (List ℕ)) → parted m (l ∷ (ls ++ ([] ∷ []))) ≡ l ++ (m ∷ parted m (ls ++ ([] ∷ [])))
some_after m l [] = refl
some_after m l (k ∷ ks) = refl

pub parted_ended : (ls : List (List ℕ)) → parted 10 (ls ++ ([] ∷ [])) ≡ ended ls
parted_ended [] = refl
parted_ended (l ∷ ls) = some_after 10 l ls ∙ ap (λ t. l ++ (10 ∷ t)) (parted_ended ls)

-- the first part and what follows it
pub record Cut (m : ℕ) (xs f : List ℕ) (fs : List (List ℕ)) : Type 0 where
  pub more : List ℕ
  pub front : first m xs ≡ f
  pub back : rest m xs ≡ Some more
  pub left : parts m more ≡ fs

cut_by : (m : ℕ) (xs f g : List ℕ) (gs : List (List ℕ)) (o : Option (List ℕ)) → rest m xs ≡ o → first m xs ∷ parts_of m o ≡ f ∷ (g ∷ gs) → Cut m xs f (g ∷ gs)
cut_by m xs f g gs None e q = absurd (let z : ◌≡◌ {A = List (List ℕ)} [] (g ∷ gs) = cc in let w : ◌≡◌ {A = ℕ} 0 1 = cc in omega arith)
cut_by m xs f g gs (Some ys) e q =
    let a : first m xs ≡ f = cc in
    let b : parts m ys ≡ g ∷ gs = cc in
    record { more = ys; front = a; back = e; left = b }

pub cut_more : (m : ℕ) (xs f g : List ℕ) (gs : List (List ℕ)) → parts m xs ≡ f ∷ (g ∷ gs) → Cut m xs f (g ∷ gs)
cut_more m xs f g gs e = cut_by m xs f g gs (rest m xs) refl (sym (parts_cut m xs) ∙ e)

pub cut_back : (m : ℕ) (xs f more : List ℕ) → first m xs ≡ f → rest m xs ≡ Some more → parts m xs ≡ f ∷ parts m more
cut_back m xs f more a b = parts_cut m xs ∙ ap (λ t. t ∷ parts_of m (rest m xs)) a ∙ ap (λ o. f ∷ parts_of m o) b

-- a field has neither mark, and at most seven bytes
pub record Field (f : List ℕ) : Type 0 where
  pub commas : Free 44 f
  pub ends : Free 10 f
  pub short : length f ≤ 7

free_digits : (m : ℕ) (ds : List ℕ) → m < 48 → AllDigits 10 ds → Free m ds
free_digits m [] h d = tt
free_digits m (c ∷ cs) h d =
    let k : IsInRange 48 57 c = digit_from_value c d.0 in
    (ne_eqb c m (λ e. omega arith), free_digits m cs h d.1)

pub decimal_field : (n : ℕ) → n < 10000000 → Field (decimal n)
decimal_field n h =
    let d : AllDigits 10 (decimal n) = (decimal_is_IsNumeral n (omega arith)).0.1 in
    record {
      commas = free_digits 44 (decimal n) (omega arith) d;
      ends = free_digits 10 (decimal n) (omega arith) d;
      short = length-decimal-le 7 n (omega arith) (omega arith) (omega arith);
    }
