-- The numbers of a line, field by field. Assumes nothing.
use Rattle.std.proofs.Common.{◌≡◌, ℕ, suc, ◌+◌, ◌-◌, ◌<◌, List, [], ◌∷◌, ◌++◌, Some, None, Option, sym, refl, ap, ◌∙◌, arith}
use Rattle.std.proofs.lemmas.List.{append_assoc}
use Rattle.sheet.specs.Numbers.{parsed, cons_if, sized}
use Rattle.sheet.specs.Parts.{parts, first, rest, parts_of}
use Rattle.sheet.proofs.Cuts.{parts_cut}

-- numbers read before those that are still to come
abbrev pub join_to : List ℕ → Option (List ℕ) → Option (List ℕ)
join_to ns None = None
join_to ns (Some ms) = Some (ns ++ ms)

less : (n i : ℕ) → i < n → n - i ≡ suc (n - (i + 1))
less n i h = omega arith

pub none_left : (ns : List ℕ) (n i : ℕ) → i < n → join_to ns (sized (n - i) []) ≡ None
none_left ns n i h = ap (λ k. join_to ns (sized k [])) (less n i h)

pub one_more : (ns : List ℕ) (n i : ℕ) (text : List ℕ) → i < n → join_to ns (sized (n - i) (parts 44 text)) ≡ join_to ns (cons_if (parsed (first 44 text)) (sized (n - (i + 1)) (parts_of 44 (rest 44 text))))
one_more ns n i text h = ap (λ fs. join_to ns (sized (n - i) fs)) (parts_cut 44 text) ∙ ap (λ k. join_to ns (sized k (first 44 text ∷ parts_of 44 (rest 44 text)))) (less n i h)

pub join_some : (ns : List ℕ) (v : ℕ) (o : Option (List ℕ)) → join_to ns (cons_if (Some v) o) ≡ join_to (ns ++ (v ∷ [])) o
join_some ns v None = refl
join_some ns v (Some ms) = ap Some (sym (append_assoc ns (v ∷ []) ms))

-- more fields than wanted, and just as many
pub sized_zero : (ns : List ℕ) (k : ℕ) (text : List ℕ) → k ≡ 0 → join_to ns (sized k (parts 44 text)) ≡ None
sized_zero ns k text e = ap (λ j. join_to ns (sized j (parts 44 text))) e ∙ ap (λ fs. join_to ns (sized 0 fs)) (parts_cut 44 text)
