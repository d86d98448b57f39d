-- The laws of the rule by the table.
use Rattle.std.specs.Prelude.{◌≡◌, ℕ, ◌*◌, ◌<◌, ◌≤◌, true, false, ◌&&◌, nat_le, nat_lt}
use Rattle.std.proofs.Common.{mul-le-mul_right, mul-le-mul, le_of_mul-le-mul_right, arith}
use Rattle.std.proofs.lemmas.Bool.{and_parts, and_from, leb-true, ltb-true, lt-ltb, le-leb}
use Rattle.std.proofs.lemmas.Bool.Decides.{nat_tests}
use Rattle.damping.specs.Rule.{inside, RuleLaws}
use Rattle.damping.specs.Table.{table, scaled_factor, table_says}
use Rattle.damping.specs.Lines.{Sound, more_n, more_d}

-- the table has the form that the laws ask for
pub sound : Sound table
sound = omega arith

more_e : (e e' p : ℕ) → e ≤ e' → scaled_factor e p ≤ scaled_factor e' p
unfolding scaled_factor
more_e e e' p h = more_n table sound (4520 * e) (4520 * e') (71 * p) (omega arith)

pub positive : (e p : ℕ) → 0 < p → 0 < scaled_factor e p
unfolding scaled_factor
positive e p z = grind (arith, nat_tests)

out : (x y p p' : ℕ) → x * (71 * p') ≤ y * (71 * p) → x * p' ≤ y * p
out x y p p' h = omega (arith, h)

more_p : (e p p' : ℕ) → 0 < p → p ≤ p' → (scaled_factor e p * scaled_factor e p) * p' ≤ (scaled_factor e p' * scaled_factor e p') * p
unfolding scaled_factor
more_p e p p' z h = out _ _ p p' (more_d table sound (4520 * e) (71 * p) (71 * p') (omega arith) (omega arith))

-- the numbers alone: x, y and v are the values at (e, p), (e, p') and (e', p')
kept : (p p' r r' x y v : ℕ) → 0 < p → r' ≤ r → (x * x) * p' ≤ (y * y) * p → y ≤ v →
    (21300 * r) * (21300 * p) ≤ x * x → (21300 * r') * (21300 * p') ≤ v * v
kept p p' r r' x y v z h s k c =
    let g : (21300 * r) * (21300 * p') * p ≤ y * y * p = omega (arith, mul-le-mul_right p' c) in
    omega (arith, le_of_mul-le-mul_right g z, mul-le-mul k k, mul-le-mul_right p' h)

pub stays : (e p r e' p' r' : ℕ) → e ≤ e' → p ≤ p' → r' ≤ r → inside e' p' r' ≡ true → table_says e p r ≡ true → table_says e' p' r' ≡ true
stays e p r e' p' r' he hp hr i t =
    let t1 = and_parts (inside e p r) (nat_lt 0 p && nat_le ((21300 * r) * (21300 * p)) (scaled_factor e p * scaled_factor e p)) t in
    let t2 = and_parts (nat_lt 0 p) (nat_le ((21300 * r) * (21300 * p)) (scaled_factor e p * scaled_factor e p)) t1.1 in
    let z = ltb-true 0 p t2.0 in
    let c = leb-true ((21300 * r) * (21300 * p)) (scaled_factor e p * scaled_factor e p) t2.1 in
    and_from _ _ i (and_from _ _ (lt-ltb 0 p' (omega arith))
    (le-leb _ _ (kept p p' r r' (scaled_factor e p) (scaled_factor e p') (scaled_factor e' p') z hr (more_p e p p' z hp) (more_e e e' p' he) c)))

at_rest : (e r : ℕ) → table_says e 0 r ≡ false
at_rest e r = grind (arith, nat_tests)

pub table_laws : RuleLaws table_says
table_laws = record {
  none_at_rest = at_rest;
  stays = λ e p r e' p' r' i i' he hp hr t. stays e p r e' p' r' he hp hr i' t;
}
