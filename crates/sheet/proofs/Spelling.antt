-- A number and its decimal text: each is read from the other, and there is no second spelling. Assumes nothing.
use Rattle.std.proofs.Common.{◌≡◌, ℕ, ◌+◌, ◌-◌, ◌*◌, ◌^◌, ◌<◌, ◌≤◌, Bool, true, false, cond, eqb, ltb, ◌⊎◌, List, [], ◌∷◌, length, get_or, Some, None, decimal, Option, sym, refl, ap, ◌∙◌, inl, inr, arith, rules}
use Rattle.std.specs.Str.Parse.{AllDigits}
use Rattle.std.specs.Int.{IsInRange}
use Rattle.std.proofs.lemmas.Fmt.{decimal_digit, decimal_nonempty, decimal-digits_value, first_decimal, length-decimal-le, digits_decimal, digits_value-decimal}
use Rattle.std.proofs.lemmas.Str.Parse.{IsNumeralModel, numerals_by_fold, tells_digits, digit_from_value, digits_value_short}
use Rattle.std.proofs.lemmas.Bool.{eqb-true, eqb-false, ltb-false, le-ltb, ne_eqb, cond-false, cases_lt}
use Rattle.sheet.specs.Numbers.{digits_from, parsed}
use Rattle.sheet.proofs.Steps.{digits_step}

-- the number that digits write after n
abbrev read_on : ℕ → List ℕ → ℕ
read_on n [] = n
read_on n (c ∷ cs) = read_on (n * 10 + (c - 48)) cs

own : IsNumeralModel (AllDigits 10) (read_on 0)
own = numerals_by_fold (AllDigits 10) tells_digits read_on (search rules)

pub no_some : {T : Type 0} {x : T} → ◌≡◌ {A = Option T} None (Some x) → ⊥
no_some q = let z : ◌≡◌ {A = ℕ} 0 1 = cc in omega arith

-- digits are read, and only digits
digits_read : (n : ℕ) (ds : List ℕ) → AllDigits 10 ds → digits_from n ds ≡ Some (read_on n ds)
digits_read n [] h = refl
digits_read n (c ∷ cs) h =
    let d : IsInRange 48 57 c = digit_from_value c h.0 in
    digits_step n c cs (omega arith) (omega arith) ∙ digits_read (n * 10 + (c - 48)) cs h.1

record Back (n : ℕ) (ds : List ℕ) (v : ℕ) : Type 0 where
  digits : AllDigits 10 ds
  same : read_on n ds ≡ v

digits_back : (n : ℕ) (ds : List ℕ) (v : ℕ) → digits_from n ds ≡ Some v → Back n ds v
digits_back n [] v e = let q : n ≡ v = cc in record { digits = tt; same = q }
digits_back n (c ∷ cs) v e = low (λ f. digits_back (n * 10 + (c - 48)) cs v f) (ltb c 48) refl e
  where
    high : (digits_from (n * 10 + (c - 48)) cs ≡ Some v → Back (n * 10 + (c - 48)) cs v) → (b : Bool) → ltb c 48 ≡ false → ltb 57 c ≡ b → cond b None (digits_from (n * 10 + (c - 48)) cs) ≡ Some v → Back n (c ∷ cs) v
    high ih true p q f = absurd (no_some f)
    high ih false p q f =
        let r = ih f in
        let l : 48 ≤ c = ltb-false c 48 p in
        let m : c ≤ 57 = ltb-false 57 c q in
        record { digits = tells_digits.more c cs (l, m) r.digits; same = r.same }

    low : (digits_from (n * 10 + (c - 48)) cs ≡ Some v → Back (n * 10 + (c - 48)) cs v) → (b : Bool) → ltb c 48 ≡ b → cond b None (cond (ltb 57 c) None (digits_from (n * 10 + (c - 48)) cs)) ≡ Some v → Back n (c ∷ cs) v
    low ih true p f = absurd (no_some f)
    low ih false p f = high ih (ltb 57 c) p refl f

-- digits without a leading zero are a number
few : (b : ℕ) (bs : List ℕ) → AllDigits 10 (b ∷ bs) → length (b ∷ bs) ≤ 7 → 48 < b → parsed (b ∷ bs) ≡ Some (read_on 0 (b ∷ bs))
few b bs d h k =
    cond-false (ltb 7 (length (b ∷ bs))) _ _ (le-ltb 7 (length (b ∷ bs)) h)
    ∙ cond-false (eqb b 48) _ _ (ne_eqb b 48 (λ e. omega arith))
    ∙ digits_read 0 (b ∷ bs) d

few_of : (ds : List ℕ) → AllDigits 10 ds → 0 < length ds → length ds ≤ 7 → 48 < get_or ds 0 0 → parsed ds ≡ Some (read_on 0 ds)
few_of [] d s h k = absurd (omega arith)
few_of (b ∷ bs) d s h k = few b bs d h k

-- a number of at most seven digits
pub parsed_decimal : (n : ℕ) → n < 10000000 → parsed (decimal n) ≡ Some n
parsed_decimal n h = go (cases_lt 0 n)
  where
    go : (0 < n) ⊎ (n ≤ 0) → parsed (decimal n) ≡ Some n
    go (inl p) =
        few_of (decimal n) (digits_decimal own n (omega arith)) (decimal_nonempty n (omega arith)) (length-decimal-le 7 n (omega arith) (omega arith) (omega arith)) (first_decimal n p (omega arith))
        ∙ ap Some (digits_value-decimal own n (omega arith))
    go (inr p) = let z : n ≡ 0 = omega arith in ap parsed (ap decimal z ∙ decimal_digit 0 (omega arith)) ∙ ap Some (sym z)

-- what is known of a field that is a number
pub record Spelled (f : List ℕ) (n : ℕ) : Type 0 where
  pub text : f ≡ decimal n
  pub small : n < 10000000

spelled_by : (f : List ℕ) (n : ℕ) → AllDigits 10 f → 0 < length f → length f ≤ 7 → (get_or f 0 0 ≡ 48 → length f ≡ 1) → read_on 0 f ≡ n → Spelled f n
spelled_by f n d s h z e =
    let k : read_on 0 f < 10 ^ 7 = digits_value_short own f 7 d h in
    let l : n < 10000000 = omega arith in
    record { text = sym (ap decimal (sym e) ∙ decimal-digits_value own f d s z (omega arith)); small = l }

pub parsed_back : (f : List ℕ) (n : ℕ) → parsed f ≡ Some n → Spelled f n
parsed_back [] n e = absurd (no_some e)
parsed_back (b ∷ bs) n e = long (ltb 7 (length (b ∷ bs))) refl e
  where
    lone : (t : Bool) → ltb 1 (length (b ∷ bs)) ≡ t → b ≡ 48 → cond t None (Some 0) ≡ Some n → Spelled (b ∷ bs) n
    lone true p z f = absurd (no_some f)
    lone false p z f = single bs (ltb-false 1 (length (b ∷ bs)) p)
      where
        single : (cs : List ℕ) → length (b ∷ cs) ≤ 1 → Spelled (b ∷ cs) n
        single [] h = let q : n ≡ 0 = cc in let l : n < 10000000 = omega arith in record { text = ap (λ (x : ℕ). x ∷ []) z ∙ sym (ap decimal q ∙ decimal_digit 0 (omega arith)); small = l }
        single (c ∷ cs) h = absurd (omega arith)

    zero_first : (t : Bool) → length (b ∷ bs) ≤ 7 → eqb b 48 ≡ t → cond t (cond (ltb 1 (length (b ∷ bs))) None (Some 0)) (digits_from 0 (b ∷ bs)) ≡ Some n → Spelled (b ∷ bs) n
    zero_first true h p f = lone (ltb 1 (length (b ∷ bs))) refl (eqb-true b 48 p) f
    zero_first false h p f =
        let r = digits_back 0 (b ∷ bs) n f in
        spelled_by (b ∷ bs) n r.digits (omega arith) h (λ z. absurd (eqb-false b 48 p z)) r.same

    long : (t : Bool) → ltb 7 (length (b ∷ bs)) ≡ t → cond t None (cond (eqb b 48) (cond (ltb 1 (length (b ∷ bs))) None (Some 0)) (digits_from 0 (b ∷ bs))) ≡ Some n → Spelled (b ∷ bs) n
    long true p f = absurd (no_some f)
    long false p f = zero_first (eqb b 48) (ltb-false 7 (length (b ∷ bs)) p) refl f
