-- Either of two bearings and a group of equal ones keep the laws that their parts keep. Assumes nothing.
use Rattle.std.specs.Prelude.{◌≡◌, ℕ, ◌*◌, ◌≤◌, true, is_ok, nat_le}
use Rattle.std.proofs.Common.{le_trans, mul-le-mul_left, mul_left_comm, mul-zero, arith}
use Rattle.std.proofs.lemmas.Nat.{mul-le}
use Rattle.std.proofs.lemmas.Bool.{cond_both, leb-true}
use Rattle.bearing.specs.Ranges.{between, top_force}
use Rattle.bearing.specs.Laws.{Laws, Curve}
use Rattle.bearing.specs.Curves.{clamped}
use Rattle.bearing.specs.Compound.{counted, times, count_checked}
use Rattle.either.specs.declared.Either.{Either}
use Rattle.either.specs.declared.Either.TheVariants.{Left, Right}
use Rattle.either.specs.Either.{either}
use Rattle.bearing.specs.CurvesLemmas.{Formulas, clamped_laws}
use Rattle.bearing.specs.Numbers.{between_says}
use Rattle.bearing.specs.Checks.{cond_passed}

pub either_laws : {X Y : Type 0} (f e : X → Curve) (f' e' : Y → Curve) → ((x : X) → Laws (f x) (e x)) → ((y : Y) → Laws (f' y) (e' y)) → (b : Either X Y) → Laws (either f f' b) (either e e' b)
either_laws f e f' e' l l' (Left x) = l x
either_laws f e f' e' l l' (Right y) = l' y

module _ {f e : Curve} (l : Laws f e) where
  -- n times the bearing, where the greatest force stays below the limit
  times_keeps : (n : ℕ) → n * f 300 300 10000 ≤ top_force → Formulas (times n f) (times n e)
  times_keeps n top = record {
    force_rests = λ s k. rw (l.force_rests s k) (mul-zero n);
    energy_rests = λ s k. rw (l.energy_rests s k) (mul-zero n);
    force_grows = λ s s' k k' d d' hs hk hd. mul-le-mul_left n (l.force_grows s s' k k' d d' hs hk hd);
    energy_grows = λ s s' k k' d d' hs hk hd. mul-le-mul_left n (l.energy_grows s s' k k' d d' hs hk hd);
    energy_bound = λ s k d. rw (mul_left_comm d n (f s k d)) (mul-le-mul_left n (l.energy_bound s k d));
    greatest = top;
  }

  counted_limit : (n : ℕ) → counted n f * f 300 300 10000 ≤ top_force
  counted_limit n =
      let one = l.force_limit 300 300 10000 in
      cond_both (nat_le (n * f 300 300 10000) top_force) n 1 (λ c. c * f 300 300 10000 ≤ top_force) (leb-true (n * f 300 300 10000) top_force) (λ t. omega arith)

  pub group_laws : (n : ℕ) → Laws (clamped (times (counted n f) f)) (clamped (times (counted n f) e))
  group_laws n = clamped_laws (times_keeps (counted n f) (counted_limit n))

  -- within the ranges an energy is never above 10,000 times the greatest force
  energy_limit : (s k d : ℕ) → d ≤ 10000 → e s k d ≤ 1000000000000
  energy_limit s k d h = le_trans (l.energy_bound s k d) (mul-le d (f s k d) 10000 top_force h (l.force_limit s k d))

  -- so what is counted up to 255 times fits 64 bits
  pub force_counts : (n s k d : ℕ) → n ≤ 255 → n * f s k d ≤ 25500000000
  force_counts n s k d h = mul-le n (f s k d) 255 top_force h (l.force_limit s k d)

  pub energy_counts : (n s k d : ℕ) → n ≤ 255 → d ≤ 10000 → n * e s k d ≤ 255000000000000
  energy_counts n s k d h hd = mul-le n (e s k d) 255 1000000000000 h (energy_limit s k d hd)

pub count_passed : (n : ℕ) → is_ok (count_checked n) ≡ true → (1 ≤ n) × (n ≤ 20)
count_passed n h = between_says 1 20 n (cond_passed (between 1 20 n) _ _ h)
