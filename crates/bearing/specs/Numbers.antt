-- Quotients that grow, and what a test of two cases keeps. Assumes nothing.
use Rattle.std.specs.Prelude.{◌≡◌, ℕ, ◌/◌, ◌<◌, ◌≤◌, true, cond, leb, nat_le}
use Rattle.std.proofs.Common.{le_trans, div-mul-le_self, arith}
use Rattle.std.proofs.lemmas.Nat.{le-div}
use Rattle.std.proofs.lemmas.Bool.{cond_both, leb-true, leb-false, le-leb, and_parts}
use Rattle.bearing.specs.Ranges.{between}

pub div_grows : (a b m : ℕ) → 0 < m → a ≤ b → a / m ≤ b / m
div_grows a b m pos h = le-div (a / m) b m pos (le_trans (div-mul-le_self a m) h)

-- a value that a threshold y chooses
pub pick_grows : (y d d' a b a' b' : ℕ) → d ≤ d' → a ≤ a' → b ≤ b' → (d ≤ y → y ≤ d' → b ≤ a') → cond (nat_le y d) a b ≤ cond (nat_le y d') a' b'
pick_grows y d d' a b a' b' h ha hb hc =
    cond_both (nat_le y d) a b (λ v. v ≤ cond (nat_le y d') a' b')
    (λ t. let e : leb y d' ≡ true = le-leb y d' (le_trans (leb-true y d t) h) in rw e ha)
    (λ t. cond_both (nat_le y d') a' b' (λ v. b ≤ v) (λ t'. hc (omega (arith, leb-false y d t)) (leb-true y d' t')) (λ t'. hb))

pub between_says : (lo hi x : ℕ) → between lo hi x ≡ true → (lo ≤ x) × (x ≤ hi)
between_says lo hi x h = let p = and_parts (nat_le lo x) (nat_le x hi) h in (leb-true lo x p.0, leb-true x hi p.1)
