-- The laws of a lead-rubber bearing. Assumes nothing.
use Rattle.std.specs.Prelude.{◌≡◌, ℕ, ◌+◌, ◌-◌, ◌*◌, ◌/◌, ◌<◌, ◌≤◌, Bool, true, false, cond, is_ok, nat_le, refl}
use Rattle.std.proofs.Common.{◌∙◌, le_trans, mul-le-mul_left, mul-le-mul, add-le-add, mul_comm, div-le_self, mul-zero, arith}
use Rattle.std.proofs.Math.Nat.{div-le_of_le-mul, zero-div}
use Rattle.std.proofs.lemmas.Nat.{mul-le, le-div}
use Rattle.std.proofs.lemmas.Bool.{cond_both, leb-true}
use Rattle.bearing.specs.Ranges.{top_force}
use Rattle.bearing.specs.Laws.{Laws, Grows}
use Rattle.bearing.specs.Fields.{field_checked}
use Rattle.kinds.specs.Leads.{strength_of, stiffness_of, yield_at, yield_of, yielded, bilinear_force, bilinear_energy, lead_formula, lead_energy_formula, lead_ranged, lead_shaped, lead_checked, lead_force, lead_energy}
use Rattle.kinds.specs.declared.lead.LeadRubber.{LeadRubber}
use Rattle.bearing.specs.Numbers.{div_grows, pick_grows}
use Rattle.bearing.specs.CurvesLemmas.{Formulas, accepted_laws}
use Rattle.bearing.specs.Checks.{first_passed, then_passed, cond_passed, field_passed}

pub record Shaped (b : LeadRubber) : Type 0 where
  pub lead : (10 ≤ b.lead) × (b.lead ≤ 400)
  pub stress : (50 ≤ b.stress) × (b.stress ≤ 200)
  pub bonded : (100 ≤ b.bonded) × (b.bonded ≤ 1500)
  pub modulus : (40 ≤ b.modulus) × (b.modulus ≤ 200)
  pub rubber : (20 ≤ b.rubber) × (b.rubber ≤ 1000)
  pub third : 3 * b.lead ≤ b.bonded

pub shaped_says : (b : LeadRubber) → is_ok (lead_shaped b) ≡ true → Shaped b
shaped_says b h =
    let r1 = first_passed (lead_ranged b) _ h in
    let r2 = then_passed (field_checked b.lead 10 400 1) _ r1 in
    let r3 = then_passed (field_checked b.stress 50 200 2) _ r2 in
    let r4 = then_passed (field_checked b.bonded 100 1500 3) _ r3 in
    let r5 = then_passed (field_checked b.modulus 40 200 4) _ r4 in
    record {
      lead = field_passed b.lead 10 400 1 (first_passed (field_checked b.lead 10 400 1) _ r1);
      stress = field_passed b.stress 50 200 2 (first_passed (field_checked b.stress 50 200 2) _ r2);
      bonded = field_passed b.bonded 100 1500 3 (first_passed (field_checked b.bonded 100 1500 3) _ r3);
      modulus = field_passed b.modulus 40 200 4 (first_passed (field_checked b.modulus 40 200 4) _ r4);
      rubber = field_passed b.rubber 20 1000 5 r5;
      third = leb-true (3 * b.lead) b.bonded (cond_passed _ tt _ (then_passed (lead_ranged b) _ h));
    }

pub strength_pos : (b : LeadRubber) → Shaped b → 0 < strength_of b
unfolding strength_of
strength_pos b h =
    let sq : 100 ≤ b.lead * b.lead = mul-le 10 10 b.lead b.lead h.lead.0 h.lead.0 in
    let pr : 35500 * 50 ≤ 355 * (b.lead * b.lead) * b.stress = mul-le 35500 50 (355 * (b.lead * b.lead)) b.stress (omega arith) h.stress.0 in
    le-div 1 (355 * (b.lead * b.lead) * b.stress * 9) 45200 (omega arith) (omega arith)

pub strength_product : (b : LeadRubber) → Shaped b → 355 * (b.lead * b.lead) * b.stress ≤ 11360000000
strength_product b h =
    let sq : b.lead * b.lead ≤ 160000 = mul-le b.lead b.lead 400 400 h.lead.1 h.lead.1 in
    mul-le (355 * (b.lead * b.lead)) b.stress 56800000 200 (omega arith) h.stress.1

pub strength_top : (b : LeadRubber) → Shaped b → strength_of b ≤ 2300000
unfolding strength_of
strength_top b h =
    let pr = strength_product b h in
    div_grows (355 * (b.lead * b.lead) * b.stress * 9) 103960000000 45200 (omega arith) (omega arith)

nine_is : (x : ℕ) → 3 * x * (3 * x) ≡ 9 * (x * x)
nine_is x = grind arith

-- the rubber ring around the lead
pub ring_low : (b : LeadRubber) → Shaped b → 8000 ≤ b.bonded * b.bonded - b.lead * b.lead
ring_low b h =
    let nine : 3 * b.lead * (3 * b.lead) ≤ b.bonded * b.bonded = mul-le (3 * b.lead) (3 * b.lead) b.bonded b.bonded h.third h.third in
    let sq : 10000 ≤ b.bonded * b.bonded = mul-le 100 100 b.bonded b.bonded h.bonded.0 h.bonded.0 in
    omega (arith, nine_is b.lead)

pub ring_top : (b : LeadRubber) → Shaped b → b.bonded * b.bonded - b.lead * b.lead ≤ 2250000
ring_top b h = omega (arith, mul-le b.bonded b.bonded 1500 1500 h.bonded.1 h.bonded.1)

pub stiffness_pos : (b : LeadRubber) → Shaped b → 0 < stiffness_of b
unfolding stiffness_of
stiffness_pos b h =
    let g = h.modulus.0 in
    let pr : 156200 * 8000 ≤ 3905 * b.modulus * (b.bonded * b.bonded - b.lead * b.lead) = mul-le 156200 8000 (3905 * b.modulus) (b.bonded * b.bonded - b.lead * b.lead) (omega arith) (ring_low b h) in
    let r0 = h.rubber.0 in
    let r = h.rubber.1 in
    le-div 1 (3905 * b.modulus * (b.bonded * b.bonded - b.lead * b.lead)) (452000 * b.rubber) (omega arith) (omega arith)

pub stiffness_top : (b : LeadRubber) → Shaped b → stiffness_of b ≤ 200000
unfolding stiffness_of
stiffness_top b h =
    let g = h.modulus.1 in
    let pr : 3905 * b.modulus * (b.bonded * b.bonded - b.lead * b.lead) ≤ 781000 * 2250000 = mul-le (3905 * b.modulus) (b.bonded * b.bonded - b.lead * b.lead) 781000 2250000 (omega arith) (ring_top b h) in
    let r0 = h.rubber.0 in
    div-le_of_le-mul (452000 * b.rubber) (omega arith)

pub yield_pos : (q k : ℕ) → 0 < q → 0 < k → 0 < yield_at q k
unfolding yield_at
yield_pos q k hq hk = le-div 1 (10 * q + (9 * k - 1)) (9 * k) (omega arith) (omega arith)

pub yield_top : (q k : ℕ) → q ≤ 2300000 → k ≤ 200000 → yield_at q k ≤ 25000000
unfolding yield_at
yield_top q k hq hk = le_trans (div-le_self (10 * q + (9 * k - 1)) (9 * k)) (omega arith)

slip_grows : (q s s' : ℕ) → s ≤ s' → q * s / 100 ≤ q * s' / 100
slip_grows q s s' h = div_grows (q * s) (q * s') 100 (omega arith) (mul-le-mul_left q h)

yielded_grows : (q r : ℕ) → Grows (yielded q r)
yielded_grows q r s s' k k' d d' hs hk hd =
    add-le-add (slip_grows q s s' hs) (div_grows (r * k * d) (r * k' * d') 1000 (omega arith) (mul-le-mul (mul-le-mul_left r hk) hd))

pick_bound : (t : Bool) (d a b x : ℕ) → a ≤ d * x → cond t a 0 ≤ d * cond t x b
pick_bound true d a b x h = h
pick_bound false d a b x h = omega arith

-- a bearing of strength q and stiffness r that yields at y
module _ (q r y : ℕ) (pos : 0 < y) where
  force_grows : Grows (bilinear_force q r y)
  force_grows s s' k k' d d' hs hk hd =
      let g = yielded_grows q r s s' k k' y y hs hk (omega arith) in
      pick_grows y d d' (yielded q r s k d) (yielded q r s k y * d / y) (yielded q r s' k' d') (yielded q r s' k' y * d' / y) hd
      (yielded_grows q r s s' k k' d d' hs hk hd)
      (div_grows (yielded q r s k y * d) (yielded q r s' k' y * d') y pos (mul-le-mul g hd))
      (λ below above.
      le_trans
      (div-le_of_le-mul y {m = yielded q r s k y * d} {n = yielded q r s k y} (rw (mul_comm y (yielded q r s k y)) (mul-le-mul_left (yielded q r s k y) below)))
      (yielded_grows q r s s' k k' y d' hs hk above))

  energy_grows : Grows (bilinear_energy q y)
  energy_grows s s' k k' d d' hs hk hd =
      pick_grows y d d' (q * s / 100 * (d - y)) 0 (q * s' / 100 * (d' - y)) 0 hd (mul-le-mul (slip_grows q s s' hs) (omega arith)) (omega arith) (λ _ _. omega arith)

  force_rests : (s k : ℕ) → bilinear_force q r y s k 0 ≡ 0
  force_rests s k =
      cond_both (nat_le y 0) (yielded q r s k 0) (yielded q r s k y * 0 / y) (λ v. v ≡ 0) (λ t. absurd (omega (arith, leb-true y 0 t))) (λ t. rw (mul-zero (yielded q r s k y)) (zero-div y))

  energy_rests : (s k : ℕ) → bilinear_energy q y s k 0 ≡ 0
  energy_rests s k =
      cond_both (nat_le y 0) (q * s / 100 * (0 - y)) 0 (λ v. v ≡ 0) (λ t. absurd (omega (arith, leb-true y 0 t))) (λ t. refl)

  energy_bound : (s k d : ℕ) → bilinear_energy q y s k d ≤ d * bilinear_force q r y s k d
  energy_bound s k d =
      pick_bound (nat_le y d) d (q * s / 100 * (d - y)) (yielded q r s k y * d / y) (yielded q r s k d)
      (rw (mul_comm d (yielded q r s k d)) (mul-le (q * s / 100) (d - y) (yielded q r s k d) d (omega arith) (omega arith)))

  pub bilinear_keeps : bilinear_force q r y 300 300 10000 ≤ top_force → Formulas (bilinear_force q r y) (bilinear_energy q y)
  bilinear_keeps top = record {
    force_rests = force_rests;
    energy_rests = energy_rests;
    force_grows = force_grows;
    energy_grows = energy_grows;
    energy_bound = energy_bound;
    greatest = top;
  }

pub lead_laws : (b : LeadRubber) → Laws (lead_force b) (lead_energy b)
lead_laws b =
    accepted_laws (is_ok (lead_checked b)) (lead_formula b) (lead_energy_formula b)
    (λ t.
    let h = shaped_says b (first_passed (lead_shaped b) _ t) in
    let pos = yield_pos (strength_of b) (stiffness_of b) (strength_pos b h) (stiffness_pos b h) in
    let top = leb-true (lead_formula b 300 300 10000) top_force (cond_passed _ b _ (then_passed (lead_shaped b) _ t)) in
    bilinear_keeps (strength_of b) (stiffness_of b) (yield_of b) pos top)

-- the formulas by strength, stiffness and yield displacement that are those of a bearing
pub response_is : (b : LeadRubber) (q r y s k d : ℕ) → q ≡ strength_of b → r ≡ stiffness_of b → y ≡ yield_at q r →
    ◌≡◌ {A = ℕ × ℕ} (bilinear_force q r y s k d, bilinear_energy q y s k d) (lead_formula b s k d, lead_energy_formula b s k d)
response_is b q r y s k d e f g =
    let h : y ≡ yield_of b = g ∙ (λ i. yield_at (e i) (f i)) in
    λ i. (bilinear_force (e i) (f i) (h i) s k d, bilinear_energy (e i) (h i) s k d)
