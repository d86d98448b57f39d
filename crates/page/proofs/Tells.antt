-- The text of a page tells its outcomes, field by field and line by line.
use Rattle.std.proofs.Common.{◌≡◌, ℕ, ◌+◌, ◌^◌, ◌<◌, ◌≤◌, Bool, true, false, List, [], ◌∷◌, ◌++◌, length, take, Some, None, codes, decimal, Option, sym, refl, ap, ◌∙◌, subst, arith}
use Rattle.std.specs.Str.Parse.{AllDigits}
use Rattle.std.proofs.lemmas.Fmt.{decimal_is_IsNumeral, decimal_nonempty, decimal_injective}
use Rattle.std.proofs.lemmas.List.{append_assoc, append_cancel_left, take_at}
use Rattle.std.proofs.lemmas.Str.Parse.{digit_from_value}
use Rattle.bridge.specs.Outcomes.{Values, Outcome, Answered, Refused, outcome_number}
use Rattle.page.specs.Text.{names_line, then_comma, shown, yes_or_no, values_text, case_line, end_line}
use Rattle.page.specs.Runs.{lines_text, page_text, Fits}
use Rattle.page.specs.Telling.{SizedDisplacement, SizedValues, Sized, AllSized, written_page, PageTells}
use Rattle.page.proofs.Turns.{page_run_text}

-- a text without the byte c
abbrev Lacks : ℕ → List ℕ → Type 0
Lacks c [] = Unit {0}
Lacks c (b ∷ bs) = (b ≡ c → ⊥) × Lacks c bs

-- a text up to its first c, and what follows that, are told by the whole
same_parts : (c : ℕ) (a b x y : List ℕ) → Lacks c a → Lacks c b → a ++ (c ∷ x) ≡ b ++ (c ∷ y) → (a ≡ b) × (x ≡ y)
same_parts c [] [] x y g h e = (refl, (cc))
same_parts c [] (v ∷ b) x y g h e = absurd (h.0 (cc))
same_parts c (u ∷ a) [] x y g h e = absurd (g.0 (cc))
same_parts c (u ∷ a) (v ∷ b) x y g h e =
    let t : (a ≡ b) × (x ≡ y) = same_parts c a b x y g.1 h.1 (cc) in
    let p = t.0 in
    ((cc), t.1)

-- digits are the bytes 48 to 57, so they lack every byte below
lacks_digits : (c : ℕ) (ds : List ℕ) → c < 48 → AllDigits 10 ds → Lacks c ds
lacks_digits c [] s h = tt
lacks_digits c (d ∷ ds) s h =
    let r = digit_from_value d h.0 in
    ((λ e. omega (arith, e, r.0)), lacks_digits c ds s h.1)

lacks_decimal : (c n : ℕ) → c < 48 → n < 2 ^ 64 → Lacks c (decimal n)
lacks_decimal c n s h = lacks_digits c (decimal n) s (decimal_is_IsNumeral n h).0.1

-- a comma ends a field
same_field : (s t x y : List ℕ) → Lacks 44 s → Lacks 44 t → then_comma s ++ x ≡ then_comma t ++ y → (s ≡ t) × (x ≡ y)
same_field s t x y g h e = same_parts 44 s t x y g h (sym (append_assoc s (44 ∷ []) x) ∙ e ∙ append_assoc t (44 ∷ []) y)

same_number : (m n : ℕ) (x y : List ℕ) → m < 2 ^ 64 → n < 2 ^ 64 → then_comma (decimal m) ++ x ≡ then_comma (decimal n) ++ y → (m ≡ n) × (x ≡ y)
same_number m n x y g h e =
    let t = same_field (decimal m) (decimal n) x y (lacks_decimal 44 m (omega arith) g) (lacks_decimal 44 n (omega arith) h) e in
    (decimal_injective m n g h t.0, t.1)

-- `-` is no number
dash_apart : (n : ℕ) → n < 2 ^ 64 → decimal n ≡ codes "-" → ⊥
dash_apart n h e = (subst (λ (l : List ℕ). Lacks 45 l) e (lacks_decimal 45 n (omega arith) h)).0 refl

dash_lacks : Lacks 44 (codes "-")
dash_lacks = ((λ e. omega (arith, e)), tt)

shown_lacks : (d : Option ℕ) → SizedDisplacement d → Lacks 44 (shown d)
shown_lacks (Some d) h = lacks_decimal 44 d (omega arith) h
shown_lacks None h = dash_lacks

shown_tells : (d d' : Option ℕ) → SizedDisplacement d → SizedDisplacement d' → shown d ≡ shown d' → d ≡ d'
shown_tells (Some d) (Some d') g h e = ap (λ (n : ℕ). Some n) (decimal_injective d d' g h e)
shown_tells (Some d) None g h e = absurd (dash_apart d g e)
shown_tells None (Some d') g h e = absurd (dash_apart d' h (sym e))
shown_tells None None g h e = refl

same_shown : (d d' : Option ℕ) (x y : List ℕ) → SizedDisplacement d → SizedDisplacement d' → then_comma (shown d) ++ x ≡ then_comma (shown d') ++ y → (d ≡ d') × (x ≡ y)
same_shown d d' x y g h e =
    let t = same_field (shown d) (shown d') x y (shown_lacks d g) (shown_lacks d' h) e in
    (shown_tells d d' g h t.0, t.1)

-- `Y` is not `N`
same_yes_or_no : (b b' : Bool) (x y : List ℕ) → yes_or_no b ++ x ≡ yes_or_no b' ++ y → (b ≡ b') × (x ≡ y)
same_yes_or_no true true x y e = (refl, (cc))
same_yes_or_no true false x y e = let z : ◌≡◌ {A = ℕ} 89 78 = cc in absurd (omega arith)
same_yes_or_no false true x y e = let z : ◌≡◌ {A = ℕ} 78 89 = cc in absurd (omega arith)
same_yes_or_no false false x y e = (refl, (cc))

-- the five values and what follows them, field by field
abbrev fields_then : Values → List ℕ → List ℕ
fields_then v x = then_comma (shown v.dlow) ++ (then_comma (shown v.dhigh) ++ (then_comma (decimal v.force) ++ (then_comma (decimal v.clear) ++ (yes_or_no v.restores ++ x))))

answered_fields : (v : Values) (x : List ℕ) → values_text (Answered v) ++ x ≡ fields_then v x
unfolding values_text
answered_fields v x = simp append_assoc

abbrev values_by : Option ℕ → Option ℕ → ℕ → ℕ → Bool → Values
values_by l h f k r = record { dlow = l; dhigh = h; force = f; clear = k; restores = r }

same_record : (v w : Values) → v.dlow ≡ w.dlow → v.dhigh ≡ w.dhigh → v.force ≡ w.force → v.clear ≡ w.clear → v.restores ≡ w.restores → v ≡ w
same_record v w a b c d r =
    let e : values_by v.dlow v.dhigh v.force v.clear v.restores ≡ values_by w.dlow w.dhigh w.force w.clear w.restores = cc in
    e

same_values : (v w : Values) (x y : List ℕ) → SizedValues v → SizedValues w → fields_then v x ≡ fields_then w y → (v ≡ w) × (x ≡ y)
same_values v w x y g h e =
    let a = same_shown v.dlow w.dlow _ _ g.dlow h.dlow e in
    let b = same_shown v.dhigh w.dhigh _ _ g.dhigh h.dhigh a.1 in
    let c = same_number v.force w.force _ _ g.force h.force b.1 in
    let d = same_number v.clear w.clear _ _ g.clear h.clear c.1 in
    let r = same_yes_or_no v.restores w.restores x y d.1 in
    (same_record v w a.0 b.0 c.0 d.0 r.0, r.1)

-- a refused case has `-` for its force, and an answered one a number
values_apart : (v : Values) (x y : List ℕ) → SizedValues v → fields_then v x ≡ codes "-,-,-,-,-\n" ++ y → ⊥
values_apart v x y g e =
    let a = same_shown v.dlow None _ (codes "-,-,-,-\n" ++ y) g.dlow tt e in
    let b = same_shown v.dhigh None _ (codes "-,-,-\n" ++ y) g.dhigh tt a.1 in
    let c = same_field (decimal v.force) (codes "-") _ (codes "-,-\n" ++ y) (lacks_decimal 44 v.force (omega arith) g.force) dash_lacks b.1 in
    dash_apart v.force g.force c.0

same_outcome : (o o' : Outcome) (x y : List ℕ) → Sized o → Sized o' → outcome_number o ≡ outcome_number o' → values_text o ++ x ≡ values_text o' ++ y → (o ≡ o') × (x ≡ y)
unfolding values_text
same_outcome (Answered v) (Answered w) x y g h n e =
    let t = same_values v w x y g h (sym (answered_fields v x) ∙ e ∙ answered_fields w y) in
    (ap (λ (u : Values). Answered u) t.0, t.1)
same_outcome (Answered v) (Refused m) x y g h n e = absurd (values_apart v x y g (sym (answered_fields v x) ∙ e))
same_outcome (Refused m) (Answered w) x y g h n e = absurd (values_apart w y x h (sym (answered_fields w y) ∙ sym e))
same_outcome (Refused m) (Refused m') x y g h n e = (ap (λ (k : ℕ). Refused k) n, append_cancel_left (codes "-,-,-,-,-\n") x y e)

number_sized : (o : Outcome) → Sized o → outcome_number o < 2 ^ 64
number_sized (Answered v) h = omega arith
number_sized (Refused n) h = h

case_fields : (place : ℕ) (o : Outcome) (x : List ℕ) → case_line place o ++ x ≡ then_comma (decimal place) ++ (then_comma (decimal (outcome_number o)) ++ (values_text o ++ x))
unfolding case_line
case_fields place o x = simp append_assoc

-- a case line tells its outcome, and where it ends
same_line : (place : ℕ) (o o' : Outcome) (x y : List ℕ) → Sized o → Sized o' → case_line place o ++ x ≡ case_line place o' ++ y → (o ≡ o') × (x ≡ y)
same_line place o o' x y g h e =
    let a = append_cancel_left (then_comma (decimal place)) _ _ (sym (case_fields place o x) ∙ e ∙ case_fields place o' y) in
    let b = same_number (outcome_number o) (outcome_number o') _ _ (number_sized o g) (number_sized o' h) a in
    same_outcome o o' x y g h b.0 b.1

-- a number begins with a digit, and the end line with `e`
digit_first : (ds x u : List ℕ) → 0 < length ds → AllDigits 10 ds → ds ++ x ≡ 101 ∷ u → ⊥
digit_first [] x u l h e = omega arith
digit_first (d ∷ ds) x u l h e =
    let r = digit_from_value d h.0 in
    let z : d ≡ 101 = cc in
    omega (arith, r.1)

line_apart : (place : ℕ) (o : Outcome) (x u : List ℕ) → place < 2 ^ 64 → case_line place o ++ x ≡ 101 ∷ u → ⊥
line_apart place o x u h e =
    digit_first (decimal place) _ u (decimal_nonempty place h) (decimal_is_IsNumeral place h).0.1
    (sym (append_assoc (decimal place) (44 ∷ []) (then_comma (decimal (outcome_number o)) ++ (values_text o ++ x))) ∙ sym (case_fields place o x) ∙ e)

-- case lines tell their outcomes, and that no more follow
same_lines : (count : ℕ) (os os' : List Outcome) (u u' : List ℕ) → count + length os ≤ 99 → count + length os' ≤ 99 → AllSized os → AllSized os'
    → lines_text count os ++ (101 ∷ u) ≡ lines_text count os' ++ (101 ∷ u') → os ≡ os'
same_lines count [] [] u u' k l g h e = refl
same_lines count [] (o' ∷ os') u u' k l g h e =
    absurd (line_apart (count + 1) o' (lines_text (count + 1) os' ++ (101 ∷ u')) u (omega arith) (sym (append_assoc (case_line (count + 1) o') _ _) ∙ sym e))
same_lines count (o ∷ os) [] u u' k l g h e =
    absurd (line_apart (count + 1) o (lines_text (count + 1) os ++ (101 ∷ u)) u' (omega arith) (sym (append_assoc (case_line (count + 1) o) _ _) ∙ e))
same_lines count (o ∷ os) (o' ∷ os') u u' k l g h e =
    let t = same_line (count + 1) o o' (lines_text (count + 1) os ++ (101 ∷ u)) (lines_text (count + 1) os' ++ (101 ∷ u')) g.0 h.0
    (sym (append_assoc (case_line (count + 1) o) _ _) ∙ e ∙ append_assoc (case_line (count + 1) o') _ _) in
    let p = t.0 in
    let q : os ≡ os' = same_lines (count + 1) os os' u u' (omega arith) (omega arith) g.1 h.1 t.1 in
    cc

-- the text of a page tells its outcomes
same_text : (os os' : List Outcome) → length os ≤ 99 → length os' ≤ 99 → AllSized os → AllSized os' → page_text os ≡ page_text os' → os ≡ os'
unfolding end_line
same_text os os' k l g h e =
    same_lines 0 os os' _ _ (omega arith) (omega arith) g h
    (append_cancel_left names_line _ _ (sym (append_assoc names_line (lines_text 0 os) (end_line (length os))) ∙ e ∙ append_assoc names_line (lines_text 0 os') (end_line (length os'))))

-- what is written of a page that fits is its text
written_text : (old : List ℕ) (os : List Outcome) → Fits (length old) os → written_page old os ≡ page_text os
written_text old os h =
    ap (λ (p : List ℕ × ℕ). take p.1 p.0) (page_run_text old os h) ∙ take_at (page_text os) _ (length (page_text os)) refl

pub page_tells : PageTells
page_tells old old' os os' f f' g h e =
    same_text os os' f.few f'.few g h (sym (written_text old os f) ∙ e ∙ written_text old' os' f')
