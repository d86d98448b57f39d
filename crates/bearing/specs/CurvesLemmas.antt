-- Formulas that keep the laws within the ranges make a bearing that keeps them everywhere. Assumes nothing.
use Rattle.std.specs.Prelude.{◌≡◌, ℕ, ◌*◌, ◌≤◌, Bool, true, false, refl}
use Rattle.std.proofs.Common.{le_trans, mul-le-mul_right, arith}
use Rattle.bearing.specs.Ranges.{factor, travel, top_force}
use Rattle.bearing.specs.Laws.{Laws, Curve, Grows}
use Rattle.bearing.specs.Curves.{clamped, if_accepted}

pub record Formulas (f e : Curve) : Type 0 where
  pub force_rests : (s k : ℕ) → f s k 0 ≡ 0
  pub energy_rests : (s k : ℕ) → e s k 0 ≡ 0
  pub force_grows : Grows f
  pub energy_grows : Grows e
  pub energy_bound : (s k d : ℕ) → e s k d ≤ d * f s k d
  pub greatest : f 300 300 10000 ≤ top_force

clamped_grows : (f : Curve) → Grows f → Grows (clamped f)
clamped_grows f g s s' k k' d d' hs hk hd =
    g (factor s) (factor s') (factor k) (factor k') (travel d) (travel d') (omega arith) (omega arith) (omega arith)

pub clamped_laws : {f e : Curve} → Formulas f e → Laws (clamped f) (clamped e)
clamped_laws {f} {e} l = record {
  force_rests = λ s k. l.force_rests (factor s) (factor k);
  energy_rests = λ s k. l.energy_rests (factor s) (factor k);
  force_grows = clamped_grows f l.force_grows;
  energy_grows = clamped_grows e l.energy_grows;
  energy_bound = λ s k d.
      le_trans (l.energy_bound (factor s) (factor k) (travel d)) (mul-le-mul_right (f (factor s) (factor k) (travel d)) (omega arith));
  force_limit = λ s k d.
      le_trans (l.force_grows (factor s) 300 (factor k) 300 (travel d) 10000 (omega arith) (omega arith) (omega arith)) l.greatest;
}

pub accepted_laws : (t : Bool) (f e : Curve) → (t ≡ true → Formulas f e) → Laws (if_accepted t f) (if_accepted t e)
accepted_laws true f e h = clamped_laws (h refl)
accepted_laws false f e h = record {
  force_rests = λ s k. refl;
  energy_rests = λ s k. refl;
  force_grows = λ s s' k k' d d' hs hk hd. omega arith;
  energy_grows = λ s s' k k' d d' hs hk hd. omega arith;
  energy_bound = λ s k d. omega arith;
  force_limit = λ s k d. omega arith;
}
