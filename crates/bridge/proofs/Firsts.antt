-- The scan finds the design displacement, or there is none. Assumes nothing.
use Rattle.std.proofs.Common.{◌≡◌, ℕ, zero, suc, ◌+◌, ◌-◌, ◌/◌, ◌^◌, ◌<◌, ◌≤◌, Bool, true, false, cond, Some, None, Option, sym, refl, ap, ◌∙◌, ⊎_elim, eq-or-lt_of_le, arith}
use Rattle.std.proofs.Math.Nat.{two-pow-succ}
use Rattle.bridge.specs.Design.{Design, Absent, first_from, design}

pub record First (meets : ℕ → Bool) (n d x : ℕ) : Type 0 where
  pub low : d ≤ x
  pub high : x < d + n
  pub passed : meets x ≡ true
  pub before : (c : ℕ) → d ≤ c → c < x → meets c ≡ false

abbrev pub Found : (ℕ → Bool) → ℕ → ℕ → Option ℕ → Type 0
Found meets n d (Some x) = First meets n d x
Found meets n d None = (c : ℕ) → d ≤ c → c < d + n → meets c ≡ false

pub true_false : true ≡ false → ⊥
true_false e = let z : ◌≡◌ {A = ℕ} 0 1 = cc in omega arith

here_or_later : (meets : ℕ → Bool) (d c : ℕ) → meets d ≡ false → d ≤ c → (d + 1 ≤ c → meets c ≡ false) → meets c ≡ false
here_or_later meets d c here low later = ⊎_elim (λ (e : d ≡ c). ap meets (sym e) ∙ here) (λ (lt : d < c). later (omega arith)) (eq-or-lt_of_le low)

-- one step of the search
step : (meets : ℕ → Bool) (n d : ℕ) (rest : Option ℕ) → Found meets n (d + 1) rest → (b : Bool) → meets d ≡ b →
    Found meets (suc n) d (cond b (Some d) rest)
step meets n d rest ih true e = record { low = omega arith; high = omega arith; passed = e; before = λ c low high. absurd (omega arith) }
step meets n d (Some x) ih false e =
    record {
      low = omega (arith, ih.low);
      high = omega (arith, ih.high);
      passed = ih.passed;
      before = λ c low high. here_or_later meets d c e low (λ more. ih.before c more high);
    }
step meets n d None ih false e = λ c low high. here_or_later meets d c e low (λ more. ih c more (omega arith))

pub found_from : (meets : ℕ → Bool) (n d : ℕ) → Found meets n d (first_from meets n d)
unfolding first_from
found_from meets zero d = λ c low high. absurd (omega arith)
found_from meets (suc n) d = step meets n d (first_from meets n (d + 1)) (found_from meets n (d + 1)) (meets d) refl

abbrev pub Designed : (ℕ → Bool) → Option ℕ → Type 0
Designed meets (Some d) = Design meets d
Designed meets None = Absent meets

of_found : (meets : ℕ → Bool) (n : ℕ) (r : Option ℕ) → n ≡ 10000 → Found meets n 1 r → Designed meets r
of_found meets n (Some d) e f = record { from_one = f.low; to_last = omega (arith, f.high); passed = f.passed; first = f.before }
of_found meets n None e f = λ d low high. f d low (omega arith)

-- the search finds the design displacement, or there is none
pub design_is : (meets : ℕ → Bool) → Designed meets (design meets)
unfolding design
design_is meets = of_found meets 10000 (first_from meets 10000 1) refl (found_from meets 10000 1)

-- what passes is no less than the design displacement
pub design_least : (meets : ℕ → Bool) (d e : ℕ) → Design meets d → 1 ≤ e → meets e ≡ true → d ≤ e
design_least meets d e p low passed =
    let never : (e < d → ⊥) = λ lt. true_false (sym passed ∙ p.first e low lt) in
    omega arith

pub design_some : (m : ℕ → Bool) (d : ℕ) → Design m d → design m ≡ Some d
design_some m d h = go (design m) (design_is m)
  where
    go : (o : Option ℕ) → Designed m o → o ≡ Some d
    go (Some e) k =
        let down : d ≤ e = design_least m d e h k.from_one k.passed in
        let up : e ≤ d = design_least m e d k h.from_one h.passed in
        ap Some (omega arith)
    go None k = absurd (true_false (sym h.passed ∙ k d h.from_one h.to_last))

pub design_none : (m : ℕ → Bool) → Absent m → design m ≡ None
design_none m h = go (design m) (design_is m)
  where
    go : (o : Option ℕ) → Designed m o → o ≡ None
    go (Some e) k = absurd (true_false (sym k.passed ∙ h e k.from_one k.to_last))
    go None k = refl

-- what meets once meets at every larger displacement, up to 10,000
abbrev pub Rises : (ℕ → Bool) → Type 0
Rises m = (j e : ℕ) → j ≤ e → e ≤ 10000 → m j ≡ true → m e ≡ true

-- missed at a displacement, so missed below it
pub misses_below : (m : ℕ → Bool) → Rises m → (e j : ℕ) → j ≤ e → e ≤ 10000 → m e ≡ false → m j ≡ false
misses_below m rises e j low high miss = go (m j) refl
  where
    go : (b : Bool) → m j ≡ b → m j ≡ false
    go true is = absurd (true_false (sym (rises j e low high is) ∙ miss))
    go false is = is

-- what is left after one turn of a halving, of 14 turns in all
pub halved : (w x t : ℕ) → t < 14 → w < 2 ^ (14 - t) → x ≤ w / 2 → x < 2 ^ (14 - (t + 1))
halved w x t turn below half =
    let e : 14 - t ≡ suc (14 - (t + 1)) = omega arith in
    let p : 2 ^ (14 - t) ≡ 2 ^ (14 - (t + 1)) + 2 ^ (14 - (t + 1)) = ap (λ n. 2 ^ n) e ∙ two-pow-succ (14 - (t + 1)) in
    omega (arith, p, below, half)

-- after all turns nothing is left
pub none_left : (w t : ℕ) → 14 ≤ t → w < 2 ^ (14 - t) → w ≡ 0
none_left w t turns below =
    let e : 14 - t ≡ 0 = omega arith in
    let p : 2 ^ (14 - t) ≡ 1 = ap (λ n. 2 ^ n) e in
    omega (arith, p, below)
