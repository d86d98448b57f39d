-- Rows that all find a place hang as they came. Assumes nothing.
use Rattle.std.proofs.Common.{◌≡◌, ℕ, ◌+◌, ◌≤◌, List, [], ◌∷◌, ◌++◌, length, sym, ap, ◌∙◌, arith}
use Rattle.std.proofs.lemmas.List.{append-nil, append_assoc, length_push}
use Rattle.std.proofs.lemmas.Bool.{cond-true, lt-ltb}
use Rattle.listing.specs.Lists.{free, pushed}
use Rattle.sheet.specs.Hanging.{hung}

module _ {T : Type 0} where
  pub hung_after : (places : ℕ) (xs rows : List T) → length xs + length rows ≤ places → hung places xs rows ≡ xs ++ rows
  hung_after places xs [] h = sym (append-nil xs)
  hung_after places xs (r ∷ rs) h =
      let put : pushed places xs r ≡ xs ++ (r ∷ []) = cond-true (free places xs) _ _ (lt-ltb (length xs) places (omega arith)) in
      ap (λ (ys : List T). hung places ys rs) put
      ∙ hung_after places (xs ++ (r ∷ [])) rs (omega (arith, length_push xs r))
      ∙ append_assoc xs (r ∷ []) rs

  pub hung_all : (places : ℕ) (rows : List T) → length rows ≤ places → hung places [] rows ≡ rows
  hung_all places rows h = hung_after places [] rows (omega arith)
