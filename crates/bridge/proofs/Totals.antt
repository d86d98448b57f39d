-- What the laws of bearings and rules give of the sums over the rows. Assumes nothing.
use Rattle.std.proofs.Common.{◌≡◌, ℕ, zero, suc, ◌+◌, ◌*◌, ◌<◌, ◌≤◌, Bool, true, List, [], ◌∷◌, ◌++◌, length, get_or, take, sym, refl, ap, ◌∙◌, le_trans, le_refl, add-zero, add_assoc, add-le-add, mul-le-mul, zero-add, mul-add, arith}
use Rattle.std.proofs.lemmas.List.{take_more}
use Rattle.std.proofs.lemmas.Bool.Decides.{nat_tests}
use Rattle.bearing.specs.Laws.{Laws, Curve, Grows}
use Rattle.damping.specs.Rule.{inside, RuleLaws}
use Rattle.bridge.specs.Sums.{Factors, Choice, all_at, at_row, total, met}
use Rattle.bridge.proofs.Firsts.{Rises}

-- one pair of factors is nowhere above another
pub record Below (f g : Factors) : Type 0 where
  pub s_below : f.s ≤ g.s
  pub k_below : f.k ≤ g.k

pub total_grows : {B : Type 0} (q : B → Curve) → ((b : B) → Grows (q b)) → (rows : List B) (φ ψ : Choice) (d e : ℕ) → ((i : ℕ) → i < length rows → Below (φ i) (ψ i)) → d ≤ e → total q rows φ d ≤ total q rows ψ e
unfolding total
total_grows q grows [] φ ψ d e below h = omega arith
total_grows q grows (b ∷ bs) φ ψ d e below h =
    add-le-add (grows b _ _ _ _ d e (below 0 (omega arith)).s_below (below 0 (omega arith)).k_below h)
    (total_grows q grows bs (λ j. φ (suc j)) (λ j. ψ (suc j)) d e (λ j l. below (suc j) (omega arith)) h)

pub row_grows : {B : Type 0} (q : B → Curve) → ((b : B) → Grows (q b)) → (rows : List B) (φ ψ : Choice) (i d e : ℕ) → ((i : ℕ) → i < length rows → Below (φ i) (ψ i)) → d ≤ e → at_row q rows φ i d ≤ at_row q rows ψ i e
unfolding at_row
row_grows q grows [] φ ψ i d e below h = omega arith
row_grows q grows (b ∷ bs) φ ψ zero d e below h = grows b _ _ _ _ d e (below 0 (omega arith)).s_below (below 0 (omega arith)).k_below h
row_grows q grows (b ∷ bs) φ ψ (suc i) d e below h = row_grows q grows bs (λ j. φ (suc j)) (λ j. ψ (suc j)) i d e (λ j l. below (suc j) (omega arith)) h

-- a rule's ranges, by their parts
pub inside_from : (e p r : ℕ) → e ≤ p → p ≤ 64000000000000 → 1 ≤ r → r ≤ 20000000000000 → inside e p r ≡ true
inside_from e p r a b c d = grind (arith, nat_tests)

module _ {B : Type 0} {force energy : B → Curve} (laws : (b : B) → Laws (force b) (energy b)) where
  pub total_limit : (rows : List B) (φ : Choice) (d : ℕ) → total force rows φ d ≤ length rows * 100000000
  unfolding total
  total_limit [] φ d = omega arith
  total_limit (b ∷ bs) φ d = omega (arith, (laws b).force_limit (φ 0).s (φ 0).k d, total_limit bs (λ j. φ (suc j)) d)

  pub total_within : (rows : List B) (φ : Choice) (d : ℕ) → total energy rows φ d ≤ d * total force rows φ d
  unfolding total
  total_within [] φ d = omega arith
  total_within (b ∷ bs) φ d =
      omega (
        arith,
        (laws b).energy_bound (φ 0).s (φ 0).k d,
        total_within bs (λ j. φ (suc j)) d,
        mul-add d (force b (φ 0).s (φ 0).k d) (total force bs (λ j. φ (suc j)) d),
      )

  pub product_top : (rows : List B) (φ : Choice) (d most : ℕ) → length rows ≤ 64 → d ≤ most → d * total force rows φ d ≤ most * 6400000000
  product_top rows φ d most few near = mul-le-mul near (omega (arith, total_limit rows φ d))

  pub energy_limit : (b : B) (s k d most : ℕ) → d ≤ most → energy b s k d ≤ most * 100000000
  energy_limit b s k d most near = le_trans ((laws b).energy_bound s k d) (mul-le-mul near ((laws b).force_limit s k d))

  module _ {says : ℕ → ℕ → ℕ → Bool} (keeps : RuleLaws says) where
    -- what meets the demand meets it with no lower factors, at no smaller displacement
    pub met_grows : (rows : List B) (φ ψ : Choice) (R d e : ℕ) → length rows ≤ 64 → 1 ≤ R → R ≤ 20000000000000 → ((i : ℕ) → i < length rows → Below (φ i) (ψ i)) → d ≤ e → e ≤ 10000 →
        met force energy says rows φ R d ≡ true → met force energy says rows ψ R e ≡ true
    unfolding met
    met_grows rows φ ψ R d e few low high below up near yes_at =
        let more : d * total force rows φ d ≤ e * total force rows ψ e = mul-le-mul up (total_grows force (λ b. (laws b).force_grows) rows φ ψ d e below up) in
        keeps.stays (total energy rows φ d) (d * total force rows φ d) R (total energy rows ψ e) (e * total force rows ψ e) R
        (inside_from _ _ R (total_within rows φ d) (product_top rows φ d 10000 few (le_trans up near)) low high)
        (inside_from _ _ R (total_within rows ψ e) (product_top rows ψ e 10000 few near) low high)
        (total_grows energy (λ b. (laws b).energy_grows) rows φ ψ d e below up) more (le_refl R) yes_at

    -- with the same factors for every row: once met, met at every larger displacement
    pub met_rises : (rows : List B) (s k R : ℕ) → length rows ≤ 64 → 1 ≤ R → R ≤ 20000000000000 → Rises (met force energy says rows (all_at s k) R)
    met_rises rows s k R few low high j e up near =
        met_grows rows (all_at s k) (all_at s k) R j e few low high (λ i _. record { s_below = le_refl s; k_below = le_refl k }) up near

-- the sums with the same factors for every row, one row after the other
pub total_none : {B : Type 0} (q : B → Curve) (s k d : ℕ) → total q [] (all_at s k) d ≡ 0
unfolding total
total_none q s k d = refl

total_append : {B : Type 0} (q : B → Curve) (xs ys : List B) (s k d : ℕ) → total q (xs ++ ys) (all_at s k) d ≡ total q xs (all_at s k) d + total q ys (all_at s k) d
unfolding total
total_append q [] ys s k d = sym (zero-add _)
total_append q (x ∷ xs) ys s k d = ap (λ n. q x s k d + n) (total_append q xs ys s k d) ∙ sym (add_assoc _ _ _)

total_one : {B : Type 0} (q : B → Curve) (b : B) (s k d : ℕ) → total q (b ∷ []) (all_at s k) d ≡ q b s k d
unfolding total
total_one q b s k d = add-zero _

pub total_next : {B : Type 0} (q : B → Curve) (rows : List B) (i : ℕ) (b : B) (s k d : ℕ) → i < length rows → b ≡ get_or rows i b →
    total q (take i rows) (all_at s k) d + q b s k d ≡ total q (take (i + 1) rows) (all_at s k) d
total_next q rows i b s k d within read =
    let pushed : take (i + 1) rows ≡ take i rows ++ (b ∷ []) = take_more rows i b within ∙ ap (λ y. take i rows ++ (y ∷ [])) (sym read) in
    sym (ap (λ xs. total q xs (all_at s k) d) pushed ∙ total_append q (take i rows) (b ∷ []) s k d ∙ ap (λ n. total q (take i rows) (all_at s k) d + n) (total_one q b s k d))

-- one row, all rows at the same factors
pub at_row_is : {B : Type 0} (q : B → Curve) (rows : List B) (i : ℕ) (b : B) (s k d : ℕ) → i < length rows → b ≡ get_or rows i b → at_row q rows (all_at s k) i d ≡ q b s k d
unfolding at_row
at_row_is q [] i b s k d h e = absurd (omega arith)
at_row_is q (x ∷ xs) zero b s k d h e = ap (λ y. q y s k d) (sym e)
at_row_is q (x ∷ xs) (suc i) b s k d h e = at_row_is q xs i b s k d (omega arith) e
