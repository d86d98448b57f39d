-- The laws of a pendulum bearing. Assumes nothing.
use Rattle.std.specs.Prelude.{◌≡◌, ℕ, ◌+◌, ◌*◌, ◌/◌, ◌<◌, ◌≤◌, true, is_ok, nat_le, refl}
use Rattle.std.proofs.Common.{mul-le-mul_left, mul-le-mul, add-le-add, mul_comm, mul-zero, arith}
use Rattle.std.proofs.lemmas.Nat.{mul-le}
use Rattle.std.proofs.lemmas.Bool.{cond_both, leb-true, leb-false}
use Rattle.bearing.specs.Ranges.{top_force}
use Rattle.bearing.specs.Laws.{Laws}
use Rattle.bearing.specs.Fields.{field_checked}
use Rattle.kinds.specs.Pendulums.{slip_of, sliding_force, sliding_energy, pendulum_ranged, pendulum_checked, pendulum_force, pendulum_energy}
use Rattle.kinds.specs.declared.sliding.Pendulum.{Pendulum}
use Rattle.bearing.specs.Numbers.{div_grows, pick_grows}
use Rattle.bearing.specs.CurvesLemmas.{accepted_laws}
use Rattle.bearing.specs.Checks.{first_passed, then_passed, cond_passed, field_passed}

pub record Ranged (b : Pendulum) : Type 0 where
  pub load_top : b.load ≤ 20000
  pub friction_top : b.friction ≤ 200
  pub radius_pos : 0 < b.radius

module _ (b : Pendulum) where
  pub ranged_says : is_ok (pendulum_ranged b) ≡ true → Ranged b
  ranged_says h =
      let rest = then_passed (field_checked b.load 10 20000 1) _ h in
      let load = field_passed b.load 10 20000 1 (first_passed (field_checked b.load 10 20000 1) _ h) in
      let friction = field_passed b.friction 10 200 2 (first_passed (field_checked b.friction 10 200 2) _ rest) in
      let radius = field_passed b.radius 200 20000 3 (then_passed (field_checked b.friction 10 200 2) _ rest) in
      record { load_top = load.1; friction_top = friction.1; radius_pos = omega (arith, radius.0) }

  pub checked_ranged : is_ok (pendulum_checked b) ≡ true → is_ok (pendulum_ranged b) ≡ true
  checked_ranged h = first_passed (pendulum_ranged b) _ h

  checked_limit : is_ok (pendulum_checked b) ≡ true → sliding_force b 300 10000 ≤ top_force
  checked_limit h = leb-true (sliding_force b 300 10000) top_force (cond_passed _ b _ (then_passed (pendulum_ranged b) _ h))

  slip_grows : (s s' : ℕ) → s ≤ s' → slip_of b s ≤ slip_of b s'
  slip_grows s s' h = div_grows (b.load * b.friction * s) (b.load * b.friction * s') 100 (omega arith) (mul-le-mul_left (b.load * b.friction) h)

  pub slip_below : (s : ℕ) → Ranged b → s ≤ 300 → slip_of b s ≤ 12000000
  slip_below s h hs =
      div_grows (b.load * b.friction * s) 1200000000 100 (omega arith)
      (mul-le (b.load * b.friction) s 4000000 300 (mul-le b.load b.friction 20000 200 h.load_top h.friction_top) hs)

  sliding_grows : Ranged b → (s s' d d' : ℕ) → s ≤ s' → d ≤ d' → sliding_force b s d ≤ sliding_force b s' d'
  sliding_grows h s s' d d' hs hd =
      pick_grows 1 d d' (slip_of b s + 100 * b.load * d / b.radius) 0 (slip_of b s' + 100 * b.load * d' / b.radius) 0 hd
      (add-le-add (slip_grows s s' hs) (div_grows (100 * b.load * d) (100 * b.load * d') b.radius h.radius_pos (mul-le-mul_left (100 * b.load) hd)))
      (omega arith)
      (λ _ _. omega arith)

  sliding_bound : (s d : ℕ) → sliding_energy b s d ≤ d * sliding_force b s d
  sliding_bound s d =
      cond_both (nat_le 1 d) (slip_of b s + 100 * b.load * d / b.radius) 0 (λ v. slip_of b s * d ≤ d * v)
      (λ _. rw (mul_comm (slip_of b s) d) (mul-le-mul_left d (omega arith)))
      (λ t. let z : d ≡ 0 = omega (arith, leb-false 1 d t) in rw (z, mul-zero (slip_of b s)) (omega arith))

  pub pendulum_laws : Laws (pendulum_force b) (pendulum_energy b)
  pendulum_laws =
      accepted_laws (is_ok (pendulum_checked b)) (λ s k d. sliding_force b s d) (λ s k d. sliding_energy b s d)
      (λ t. record {
        force_rests = λ s k. refl;
        energy_rests = λ s k. mul-zero (slip_of b s);
        force_grows = λ s s' k k' d d' hs hk hd. sliding_grows (ranged_says (checked_ranged t)) s s' d d' hs hd;
        energy_grows = λ s s' k k' d d' hs hk hd. mul-le-mul (slip_grows s s' hs) hd;
        energy_bound = λ s k d. sliding_bound s d;
        greatest = checked_limit t;
      })
