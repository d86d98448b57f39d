-- The parts of a text are what `split` of a slice at the mark gives. Assumes nothing.
use Rattle.std.proofs.Common.{◌≡◌, ℕ, eqb, List, [], ◌∷◌, get_or, Some, None, Option, Bor, refl, ap, ◌∙◌}
use Rattle.std.specs.List.{slice_get, slice_split, onto_first}
use Rattle.std.specs.Option.{option_map, unwrap_or}
use Rattle.std.proofs.lemmas.Option.{unwrap_or-slice_get}
use Rattle.sheet.specs.Parts.{parts, on_first}

same_first : (x : ℕ) (ps : List (List ℕ)) → onto_first x ps ≡ on_first x ps
same_first x [] = refl
same_first x (p ∷ ps) = refl

parts_split : (m : ℕ) (xs : List ℕ) → slice_split (λ x. eqb x m) xs ≡ parts m xs
parts_split m [] = refl
parts_split m (x ∷ xs) = rw (parts_split m xs, same_first x (parts m xs))

behind : (o : Option (Bor (List ℕ))) (d : Bor (List ℕ)) → (unwrap_or o d).now ≡ unwrap_or (option_map (λ x. x.now) o) d.now
behind None d = refl
behind (Some x) d = refl

-- the i-th piece that `split` gives, or else nothing, is the i-th part
pub part_found : (m : ℕ) (xs : List ℕ) (i : ℕ) (o : Option (Bor (List ℕ))) (d : Bor (List ℕ)) → d.now ≡ [] → option_map (λ x. x.now) o ≡ slice_get (slice_split (λ x. eqb x m) xs) i → (unwrap_or o d).now ≡ get_or (parts m xs) i []
part_found m xs i o d e f =
    behind o d
    ∙ ap (λ (p : Option (List ℕ)). unwrap_or p d.now) f
    ∙ unwrap_or-slice_get (slice_split (λ x. eqb x m) xs) i d.now
    ∙ ap (λ (ys : List ℕ). get_or (slice_split (λ x. eqb x m) xs) i ys) e
    ∙ ap (λ (ps : List (List ℕ)). get_or ps i []) (parts_split m xs)
