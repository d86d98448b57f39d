-- A lead-rubber bearing: its formulas, its making, its force and energy. Assumes nothing.
use Rattle.std.specs.Prelude.{ℕ, ◌+◌, ◌-◌, ◌*◌, ◌/◌, cond, List, is_ok, Ok, Err, Result, nat_le, slice_index}
use Rattle.bearing.specs.declared.fault.Refusal.TheVariants.{LeadTooWide}
use Rattle.bearing.specs.declared.fault.Layer.TheVariants.{Bearing}
use Rattle.bearing.specs.declared.fault.Fault.{Fault}
use Rattle.kinds.specs.declared.lead.LeadRubber.{LeadRubber}
use Rattle.bearing.specs.Laws.{Curve}
use Rattle.bearing.specs.Curves.{if_accepted}
use Rattle.bearing.specs.Refusals.{plain_fault, and_then}
use Rattle.bearing.specs.Fields.{field_checked, force_checked}

-- on a sheet: the letter L, and five fields
abbrev pub lead_letter : ℕ
lead_letter = 76

abbrev pub lead_fields : ℕ
lead_fields = 5

-- the characteristic strength Q, in newtons: 0.9 times the yield stress of the lead times its area, with π as 355/113
unfoldable pub strength_of : LeadRubber → ℕ
strength_of b = 355 * (b.lead * b.lead) * b.stress * 9 / 45200

-- the post-yield stiffness K, in newtons per millimetre: 1.1 times the shear modulus times the rubber's area over its thickness
unfoldable pub stiffness_of : LeadRubber → ℕ
stiffness_of b = 3905 * b.modulus * (b.bonded * b.bonded - b.lead * b.lead) / (452000 * b.rubber)

-- the yield displacement Y, in tenths of a millimetre: 10 Q / (9 K) rounded up
unfoldable pub yield_at : ℕ → ℕ → ℕ
yield_at strength stiffness = (10 * strength + (9 * stiffness - 1)) / (9 * stiffness)

-- the yield displacement of a bearing
abbrev pub yield_of : LeadRubber → ℕ
yield_of b = yield_at (strength_of b) (stiffness_of b)

-- the force from the yield displacement on, in newtons
abbrev pub yielded : ℕ → ℕ → Curve
yielded strength stiffness s k d = strength * s / 100 + stiffness * k * d / 1000

-- the force, in newtons: below the yield displacement it falls in proportion to d
abbrev pub bilinear_force : ℕ → ℕ → ℕ → Curve
bilinear_force strength stiffness yield s k d =
    cond (nat_le yield d) (yielded strength stiffness s k d) (yielded strength stiffness s k yield * d / yield)

-- the energy, in newtons times tenths of a millimetre: 0 below the yield displacement
abbrev pub bilinear_energy : ℕ → ℕ → Curve
bilinear_energy strength yield s k d = cond (nat_le yield d) (strength * s / 100 * (d - yield)) 0

-- the force by the formulas, in newtons, whatever the fields
abbrev pub lead_formula : LeadRubber → Curve
lead_formula b = bilinear_force (strength_of b) (stiffness_of b) (yield_of b)

-- the energy by the formulas, in newtons times tenths of a millimetre, whatever the fields
abbrev pub lead_energy_formula : LeadRubber → Curve
lead_energy_formula b = bilinear_energy (strength_of b) (yield_of b)

-- each field in its range, from left to right: mm, tenths of MPa, mm, hundredths of MPa, mm
abbrev pub lead_ranged : LeadRubber → Result (Unit {0}) Fault
lead_ranged b =
    and_then (field_checked b.lead 10 400 1)
    (λ _. and_then (field_checked b.stress 50 200 2)
    (λ _. and_then (field_checked b.bonded 100 1500 3)
    (λ _. and_then (field_checked b.modulus 40 200 4)
    (λ _. field_checked b.rubber 20 1000 5))))

-- then the lead at most a third of the bonded diameter
abbrev pub lead_shaped : LeadRubber → Result (Unit {0}) Fault
lead_shaped b =
    and_then (lead_ranged b) (λ _. cond (nat_le (3 * b.lead) b.bonded) (Ok tt) (Err (plain_fault LeadTooWide Bearing)))

-- then the greatest force
abbrev pub lead_checked : LeadRubber → Result LeadRubber Fault
lead_checked b = and_then (lead_shaped b) (λ _. force_checked Bearing (lead_formula b 300 300 10000) b)

-- the bearing of these fields, accepted or not
abbrev pub lead_of : ℕ → ℕ → ℕ → ℕ → ℕ → LeadRubber
lead_of lead stress bonded modulus rubber =
    record { lead = lead; stress = stress; bonded = bonded; modulus = modulus; rubber = rubber }

-- the bearing of these fields, or why it is refused
abbrev pub lead_made : ℕ → ℕ → ℕ → ℕ → ℕ → Result LeadRubber Fault
lead_made lead stress bonded modulus rubber = lead_checked (lead_of lead stress bonded modulus rubber)

-- the five numbers of a line, as fields
abbrev pub lead_on_line : List ℕ → LeadRubber
lead_on_line p = lead_of (slice_index p 0) (slice_index p 1) (slice_index p 2) (slice_index p 3) (slice_index p 4)

-- the force, in newtons: 0 for fields that making refuses
abbrev pub lead_force : LeadRubber → Curve
lead_force b = if_accepted (is_ok (lead_checked b)) (lead_formula b)

-- the energy, in newtons times tenths of a millimetre: 0 for fields that making refuses
abbrev pub lead_energy : LeadRubber → Curve
lead_energy b = if_accepted (is_ok (lead_checked b)) (lead_energy_formula b)
