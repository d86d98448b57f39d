-- What is read of an input, where its bytes are known. Assumes nothing.
use Rattle.std.proofs.Common.{◌≡◌, ℕ, ◌≤◌, ◌+◌, List, ◌++◌, length, take, Some, None, Option, sym, ap, ◌∙◌, length-take-le, append-nil, take_all, le_refl}
use Rattle.std.proofs.Math.Seq.{take-append_seam, take-append-add}
use Rattle.std.proofs.lemmas.List.{take-append-le}
use Rattle.std.proofs.lemmas.Slice.{take-put_mid_below}
use borrow.Rule.Slice.PartMut.{put_mid, post_of}
use Rattle.std.specs.Option.{IfSome}
use Rattle.std.specs.Io.KnownBytes.{Consumes, IsAtEnd}
use Rattle.deckpage.specs.Answering.{sheet_of}

-- n bytes more, read into what is free behind the first a
pub read_more : (a k n : ℕ) (xs ys : List ℕ) → a ≤ length xs → n ≤ length ys → take (a + n) (put_mid a k xs ys) ≡ take a xs ++ take n ys
read_more a k n xs ys within fits =
    let after = post_of a k xs in
    ap (λ (i : ℕ). take (i + n) (put_mid a k xs ys)) (sym (length-take-le a xs within))
    ∙ take-append-add (take a xs) (ys ++ after) n
    ∙ ap (λ (l : List ℕ). take a xs ++ l) (take-append-le n ys after fits)

-- no byte more
pub read_none : (a k n : ℕ) (xs ys : List ℕ) → a ≤ length xs → n ≡ 0 → take a (put_mid a k xs ys) ≡ take a xs ++ take n ys
read_none a k n xs ys within none =
    take-put_mid_below a k xs ys a (le_refl a) within
    ∙ sym (ap (λ (m : ℕ). take a xs ++ take m ys) none ∙ append-nil (take a xs))

-- as many bytes as are read at most
pub read_full : (all left : Option (List ℕ)) (xs : List ℕ) → length xs ≡ 16385 → Consumes all left xs → IfSome (sheet_of all) (λ b. xs ≡ b)
read_full None left xs n e = tt
read_full (Some b) None xs n e = absurd e
read_full (Some b) (Some ys) xs n e = sym (ap (take 16385) e ∙ ap (λ (i : ℕ). take i (xs ++ ys)) (sym n) ∙ take-append_seam xs ys)

-- all that there is, where it is no more
pub read_all : (all left : Option (List ℕ)) (xs : List ℕ) → length xs ≤ 16385 → Consumes all left xs → IsAtEnd left → IfSome (sheet_of all) (λ b. xs ≡ b)
read_all None left xs n e z = tt
read_all (Some b) None xs n e z = absurd e
read_all (Some b) (Some ys) xs n e z =
    let whole : b ≡ xs = e ∙ ap (λ (l : List ℕ). xs ++ l) z ∙ append-nil xs in
    sym (ap (take 16385) whole ∙ take_all 16385 xs n)
