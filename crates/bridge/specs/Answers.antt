-- What a closed bridge answers to a load case. Assumes nothing.
use Rattle.std.specs.Prelude.{ℕ, ◌+◌, ◌-◌, ◌*◌, ◌/◌, max, Bool, cond, List, length, Some, None, Ok, Err, Option, Result, nat_le, nat_lt}
use Rattle.bearing.specs.declared.fault.Fault.{Fault}
use Rattle.bearing.specs.declared.fault.Refusal.TheVariants.{NoRows, BeyondRange, NoSuchRow}
use Rattle.bearing.specs.declared.fault.Layer.TheVariants.{Bridge}
use Rattle.bearing.specs.Refusals.{plain_fault}
use Rattle.bearing.specs.Ranges.{between}
use Rattle.bearing.specs.Laws.{Curve}
use Rattle.loading.specs.declared.loads.CaseNumbers.{CaseNumbers}
use Rattle.loading.specs.Making.{demand}
use Rattle.bridge.specs.Sums.{Choice, all_at, at_row, total, met}
use Rattle.bridge.specs.Design.{design}
use Rattle.bridge.specs.Outcomes.{Values}

-- every row at the lowest factors that the case allows
abbrev pub lowest : {R : Type 0} → CaseNumbers R → Choice
lowest c = all_at c.slo c.klo

-- every row at the highest
abbrev pub highest : {R : Type 0} → CaseNumbers R → Choice
highest c = all_at c.shi c.khi

-- the clearance, in tenths of a millimetre: the displacement at the lowest factors, at least 25.0 mm
abbrev pub clearance : ℕ → ℕ
clearance dlow = max dlow 250

-- of the forces at the lowest factors at dlow and at half of it (rounded up), in newtons, and a weight in kilonewtons:
-- 80 times their difference is at least the weight in newtons
abbrev pub restoring : ℕ → ℕ → ℕ → Bool
restoring whole half w = nat_le (1000 * w) (80 * (whole - half))

-- a displacement's half, rounded up
abbrev pub half_of : ℕ → ℕ
half_of d = (d + 1) / 2

module _ {B R : Type 0} (force energy : B → Curve) (says : R → ℕ → ℕ → ℕ → Bool) (rows : List B) (W : ℕ) where
  -- the demand of the case is met at d, by rows with the factors φ
  abbrev pub meets : CaseNumbers R → Choice → ℕ → Bool
  meets c φ = met force energy (says c.rule) rows φ (demand c W)

  -- the five values, from the design displacement at the lowest factors
  abbrev pub values_at : CaseNumbers R → ℕ → Values
  values_at c dlow = record {
    dlow = Some dlow;
    dhigh = design (meets c (highest c));
    force = total force rows (highest c) dlow;
    clear = clearance dlow;
    restores = restoring (total force rows (lowest c) dlow) (total force rows (lowest c) (half_of dlow)) W;
  }

  -- beyond range where no displacement meets at the lowest factors
  abbrev pub answer_at : CaseNumbers R → Option ℕ → Result Values Fault
  answer_at c (Some dlow) = Ok (values_at c dlow)
  answer_at c None = Err (plain_fault BeyondRange Bridge)

  -- a query
  abbrev pub queried : CaseNumbers R → Result Values Fault
  queried c = cond (nat_lt 0 (length rows)) (answer_at c (design (meets c (lowest c)))) (Err (plain_fault NoRows Bridge))

  -- the force of the row in place i, counted from 0, at the highest factors at dlow, in newtons
  abbrev pub row_force_at : CaseNumbers R → ℕ → ℕ → ℕ
  row_force_at c i dlow = at_row force rows (highest c) i dlow

  abbrev pub row_answer_at : CaseNumbers R → ℕ → Option ℕ → Result ℕ Fault
  row_answer_at c n (Some dlow) = Ok (row_force_at c (n - 1) dlow)
  row_answer_at c n None = Err (plain_fault BeyondRange Bridge)

  -- a row query: rows are numbered from 1 to their count
  abbrev pub row_queried : CaseNumbers R → ℕ → Result ℕ Fault
  row_queried c n =
      cond (nat_lt 0 (length rows))
      (cond (between 1 (length rows) n) (row_answer_at c n (design (meets c (lowest c)))) (Err (plain_fault NoSuchRow Bridge)))
      (Err (plain_fault NoRows Bridge))
