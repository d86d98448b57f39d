-- Laws of `written`: one text after another, and how many bytes there are.
use Rattle.std.proofs.Common.{◌≡◌, ℕ, ◌+◌, ◌≤◌, List, ◌++◌, length, take, drop, sym, ap, ◌∙◌, add_assoc, arith}
use Rattle.std.proofs.lemmas.List.{append_assoc, drop-drop, drop_at, take_at, length-append, length-take-le, length-drop}
use Rattle.page.specs.Text.{written}

-- a text written after another is both written at once
pub written_more : (xs : List ℕ) (a b : ℕ) (s t : List ℕ) → a ≤ length xs → b ≡ a + length s → written (written xs a s) b t ≡ written xs a (s ++ t)
written_more xs a b s t h e =
    let p : List ℕ = take a xs ++ s in
    let q : List ℕ = drop (a + length s) xs in
    let lp : length p ≡ b = simp (length-append, length-take-le) (sym e) in
    let split : written xs a s ≡ p ++ q = sym (append_assoc (take a xs) s q) in
    let front : take b (written xs a s) ≡ p = ap (λ (l : List ℕ). take b l) split ∙ take_at p q b lp in
    let back : drop (b + length t) (written xs a s) ≡ drop (a + length (s ++ t)) xs =
    ap (λ (l : List ℕ). drop (b + length t) l) split ∙ sym (drop-drop (length t) b (p ++ q)) ∙ ap (λ (l : List ℕ). drop (length t) l) (drop_at p q b lp)
    ∙ drop-drop (length t) (a + length s) xs ∙ ap (λ (n : ℕ). drop n xs) (simp length-append (add_assoc a (length s) (length t))) in
    simp (front, back, append_assoc)

-- a text that fits does not change how many bytes there are
pub length_written : (xs text : List ℕ) → length text ≤ length xs → length (written xs 0 text) ≡ length xs
length_written xs text h = simp (length-append, length-drop) (omega arith)
