-- The demand of a load case fits the ranges of a damping rule. Assumes nothing.
use Rattle.std.proofs.Common.{ℕ, ◌+◌, ◌*◌, ◌/◌, ◌≤◌, arith}
use native.Mathlib.Nat.{div-le_of_le-mul}
use Rattle.std.proofs.lemmas.Nat.{mul-le, le-div}
use Rattle.loading.specs.declared.loads.Site.{Site}
use Rattle.loading.specs.declared.loads.Site.TheVariants.{I, II, III, IV}
use Rattle.loading.specs.declared.loads.CaseNumbers.{CaseNumbers}
use Rattle.loading.specs.Sites.{site_tenths}
use Rattle.loading.specs.Making.{demand_of, demand}

pub site_low : (s : Site) → 10 ≤ site_tenths s
site_low I = omega arith
site_low II = omega arith
site_low III = omega arith
site_low IV = omega arith

pub site_top : (s : Site) → site_tenths s ≤ 27
site_top I = omega arith
site_top II = omega arith
site_top III = omega arith
site_top IV = omega arith

pub product_top : (a t w : ℕ) → a ≤ 100 → t ≤ 27 → w ≤ 1000000 → 251519 * ((a * t) * (a * t)) * w ≤ 1833573510000000000
product_top a t w ha ht hw =
    let at : a * t ≤ 2700 = mul-le a t 100 27 ha ht in
    let sq : (a * t) * (a * t) ≤ 7290000 = mul-le (a * t) (a * t) 2700 2700 at at in
    mul-le (251519 * ((a * t) * (a * t))) w 1833573510000 1000000 (omega arith) hw

product_low : (a t w : ℕ) → 1 ≤ a → 10 ≤ t → 1 ≤ w → 1 ≤ 251519 * ((a * t) * (a * t)) * w
product_low a t w ha ht hw =
    let at : 10 ≤ a * t = mul-le 1 10 a t ha ht in
    let sq : 100 ≤ (a * t) * (a * t) = mul-le 10 10 (a * t) (a * t) at at in
    let all : 25151900 * 1 ≤ 251519 * ((a * t) * (a * t)) * w = mul-le 25151900 1 (251519 * ((a * t) * (a * t))) w (omega arith) hw in
    omega arith

-- the demand by its formula, from 1 to 20,000,000,000,000
pub demanded_top : (a t w : ℕ) → a ≤ 100 → t ≤ 27 → w ≤ 1000000 → (251519 * ((a * t) * (a * t)) * w + 99999) / 100000 ≤ 20000000000000
demanded_top a t w ha ht hw =
    let p = product_top a t w ha ht hw in
    div-le_of_le-mul 100000 (omega arith)

pub demanded_low : (a t w : ℕ) → 1 ≤ a → 10 ≤ t → 1 ≤ w → 1 ≤ (251519 * ((a * t) * (a * t)) * w + 99999) / 100000
demanded_low a t w ha ht hw =
    let p = product_low a t w ha ht hw in
    le-div 1 (251519 * ((a * t) * (a * t)) * w + 99999) 100000 (omega arith) (omega arith)

-- the demand of a load case, from 1 to 20,000,000,000,000
pub demand_top : {R : Type 0} (n : CaseNumbers R) (w : ℕ) → n.accel ≤ 100 → w ≤ 1000000 → demand n w ≤ 20000000000000
unfolding demand_of
demand_top n w ha hw = demanded_top n.accel (site_tenths n.site) w ha (site_top n.site) hw

pub demand_low : {R : Type 0} (n : CaseNumbers R) (w : ℕ) → 1 ≤ n.accel → 1 ≤ w → 1 ≤ demand n w
unfolding demand_of
demand_low n w ha hw = demanded_low n.accel (site_tenths n.site) w ha (site_low n.site) hw
