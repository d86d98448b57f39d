-- What is known of fields that passed their checks. Assumes nothing.
use Rattle.std.specs.Prelude.{◌≡◌, ℕ, ◌<◌, ◌≤◌, Bool, true, false, cond, is_ok, Ok, Err, Result, nat_le, refl}
use Rattle.std.proofs.Common.{sym, ap, ◌∙◌, arith}
use Rattle.std.proofs.lemmas.Bool.{false≢true, le-leb, lt-leb}
use Rattle.bearing.specs.declared.fault.Fault.{Fault}
use Rattle.bearing.specs.declared.fault.Layer.{Layer}
use Rattle.bearing.specs.Ranges.{between, top_force}
use Rattle.bearing.specs.Refusals.{and_then}
use Rattle.bearing.specs.Fields.{field_checked, force_checked}
use Rattle.bearing.specs.Laws.{Curve}
use Rattle.bearing.specs.Curves.{clamped, if_accepted}
use Rattle.bearing.specs.Numbers.{between_says}

-- an answer is no refusal
pub clash : {S : Type 0} {x : S} {e : Fault} → ◌≡◌ {A = Result S Fault} (Err e) (Ok x) → ⊥
clash q = let z : ◌≡◌ {A = ℕ} 0 1 = cc in omega arith

pub first_passed : {S T : Type 0} (r : Result S Fault) (f : S → Result T Fault) → is_ok (and_then r f) ≡ true → is_ok r ≡ true
first_passed (Ok x) f h = refl
first_passed (Err e) f h = h

-- a later check, where the first one has nothing to hand on
pub then_passed : {T : Type 0} (r : Result (Unit {0}) Fault) (f : Unit {0} → Result T Fault) → is_ok (and_then r f) ≡ true → is_ok (f tt) ≡ true
then_passed (Ok x) f h = h
then_passed (Err e) f h = absurd (false≢true h)

pub cond_passed : {T : Type 0} (t : Bool) (x : T) (e : Fault) → is_ok {T = T} {E = Fault} (cond t (Ok x) (Err e)) ≡ true → t ≡ true
cond_passed true x e h = refl
cond_passed false x e h = h

pub field_passed : (x lo hi place : ℕ) → is_ok (field_checked x lo hi place) ≡ true → (lo ≤ x) × (x ≤ hi)
field_passed x lo hi place h = between_says lo hi x (cond_passed (between lo hi x) _ _ h)

cond_ok : {T : Type 0} (t : Bool) (x : T) (e : Fault) → is_ok {T = T} {E = Fault} (cond t (Ok x) (Err e)) ≡ t
cond_ok true x e = refl
cond_ok false x e = refl

-- where the checks before it passed, a bearing is accepted just where its greatest force is within the limit
pub accepted_is : {T : Type 0} (layer : Layer) (r : Result (Unit {0}) Fault) (g : ℕ) (b : T) → is_ok r ≡ true → is_ok (and_then r (λ _. force_checked layer g b)) ≡ nat_le g top_force
accepted_is layer (Ok x) g b h = cond_ok (nat_le g top_force) b _
accepted_is layer (Err e) g b h = absurd (false≢true h)

-- the formulas then are its force and energy
pub answered_by : {T : Type 0} (layer : Layer) (r : Result (Unit {0}) Fault) (g : ℕ) (b : T) (f e : Curve) (s k d : ℕ) → is_ok r ≡ true → g ≤ top_force →
    ◌≡◌ {A = ℕ × ℕ} (clamped f s k d, clamped e s k d) (if_accepted (is_ok (and_then r (λ _. force_checked layer g b))) f s k d, if_accepted (is_ok (and_then r (λ _. force_checked layer g b))) e s k d)
answered_by layer r g b f e s k d h low =
    let t : is_ok (and_then r (λ _. force_checked layer g b)) ≡ true = accepted_is layer r g b h ∙ le-leb g top_force low in
    sym (ap (λ (v : Bool). (if_accepted v f s k d, if_accepted v e s k d)) t)

-- and above the limit both are 0
pub unanswered_by : {T : Type 0} (layer : Layer) (r : Result (Unit {0}) Fault) (g : ℕ) (b : T) (f e : Curve) (s k d : ℕ) → is_ok r ≡ true → top_force < g →
    ◌≡◌ {A = ℕ × ℕ} (0, 0) (if_accepted (is_ok (and_then r (λ _. force_checked layer g b))) f s k d, if_accepted (is_ok (and_then r (λ _. force_checked layer g b))) e s k d)
unanswered_by layer r g b f e s k d h above =
    let t : is_ok (and_then r (λ _. force_checked layer g b)) ≡ false = accepted_is layer r g b h ∙ lt-leb g top_force above in
    sym (ap (λ (v : Bool). (if_accepted v f s k d, if_accepted v e s k d)) t)
