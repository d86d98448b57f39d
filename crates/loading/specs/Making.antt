-- What making a weight and a load case gives. Assumes nothing.
use Rattle.std.specs.Prelude.{ℕ, ◌+◌, ◌*◌, ◌/◌, cond, ◌&&◌, Ok, Err, Result, nat_le}
use Rattle.bearing.specs.declared.fault.Fault.{Fault}
use Rattle.bearing.specs.declared.fault.Refusal.TheVariants.{BoundsReversed}
use Rattle.bearing.specs.declared.fault.Layer.TheVariants.{Bridge}
use Rattle.bearing.specs.Ranges.{between}
use Rattle.bearing.specs.Refusals.{out_of_range, plain_fault, and_then}
use Rattle.bearing.specs.Fields.{range_checked}
use Rattle.loading.specs.declared.loads.CaseNumbers.{CaseNumbers}
use Rattle.loading.specs.Sites.{site_tenths}

-- a weight of 1 to 1,000,000 kilonewtons, by its number
abbrev pub weight_made : ℕ → Result ℕ Fault
weight_made kn = cond (between 1 1000000 kn) (Ok kn) (Err (out_of_range Bridge 1))

-- a number of a load case, in its range or refused with its field
abbrev pub case_field : ℕ → ℕ → ℕ → ℕ → Result (Unit {0}) Fault
case_field x low high field = range_checked Bridge x low high field

-- the bounds in their order
abbrev pub bounds_ordered : {R : Type 0} → CaseNumbers R → Result (CaseNumbers R) Fault
bounds_ordered n = cond (nat_le n.slo n.shi && nat_le n.klo n.khi) (Ok n) (Err (plain_fault BoundsReversed Bridge))

-- a load case, by its plain numbers: acceleration 1 to 100 hundredths of g, factors 50 to 300 percent, from left
-- to right (the site is field 2, the rule field 7), then the order of the bounds
abbrev pub case_made : {R : Type 0} → CaseNumbers R → Result (CaseNumbers R) Fault
case_made n =
    and_then (case_field n.accel 1 100 1) (λ _.
    and_then (case_field n.slo 50 300 3) (λ _.
    and_then (case_field n.shi 50 300 4) (λ _.
    and_then (case_field n.klo 50 300 5) (λ _.
    and_then (case_field n.khi 50 300 6) (λ _.
    bounds_ordered n)))))

-- the demand of a deck of W kilonewtons, in newtons times tenths of a millimetre:
-- 251,519 × (A × site)² × W / 100,000 rounded up, with A in hundredths of g and the site coefficient in tenths
unfoldable pub demand_of : ℕ → ℕ → ℕ → ℕ
demand_of accel tenths w = (251519 * ((accel * tenths) * (accel * tenths)) * w + 99999) / 100000

-- the demand of a load case
abbrev pub demand : {R : Type 0} → CaseNumbers R → ℕ → ℕ
demand n w = demand_of n.accel (site_tenths n.site) w
