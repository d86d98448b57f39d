-- A pendulum bearing: its formulas, its making, its force and energy. Assumes nothing.
use Rattle.std.specs.Prelude.{ℕ, ◌+◌, ◌*◌, ◌/◌, cond, List, is_ok, Result, nat_le, slice_index}
use Rattle.bearing.specs.declared.fault.Layer.TheVariants.{Bearing}
use Rattle.bearing.specs.declared.fault.Fault.{Fault}
use Rattle.kinds.specs.declared.sliding.Pendulum.{Pendulum}
use Rattle.bearing.specs.Laws.{Curve}
use Rattle.bearing.specs.Curves.{if_accepted}
use Rattle.bearing.specs.Refusals.{and_then}
use Rattle.bearing.specs.Fields.{field_checked, force_checked}

-- on a sheet: the letter P, and three fields
abbrev pub pendulum_letter : ℕ
pendulum_letter = 80

abbrev pub pendulum_fields : ℕ
pendulum_fields = 3

-- the friction force, in newtons
abbrev pub slip_of : Pendulum → ℕ → ℕ
slip_of b s = b.load * b.friction * s / 100

-- the force by the formula, in newtons, whatever the fields: the friction force, and load times d over the radius
abbrev pub sliding_force : Pendulum → ℕ → ℕ → ℕ
sliding_force b s d = cond (nat_le 1 d) (slip_of b s + 100 * b.load * d / b.radius) 0

-- the energy by the formula, in newtons times tenths of a millimetre, whatever the fields
abbrev pub sliding_energy : Pendulum → ℕ → ℕ → ℕ
sliding_energy b s d = slip_of b s * d

-- each field in its range, from left to right: kN, thousandths, mm
abbrev pub pendulum_ranged : Pendulum → Result (Unit {0}) Fault
pendulum_ranged b =
    and_then (field_checked b.load 10 20000 1)
    (λ _. and_then (field_checked b.friction 10 200 2)
    (λ _. field_checked b.radius 200 20000 3))

-- then the greatest force
abbrev pub pendulum_checked : Pendulum → Result Pendulum Fault
pendulum_checked b = and_then (pendulum_ranged b) (λ _. force_checked Bearing (sliding_force b 300 10000) b)

-- the bearing of these fields, accepted or not
abbrev pub pendulum_of : ℕ → ℕ → ℕ → Pendulum
pendulum_of load friction radius = record { load = load; friction = friction; radius = radius }

-- the bearing of these fields, or why it is refused
abbrev pub pendulum_made : ℕ → ℕ → ℕ → Result Pendulum Fault
pendulum_made load friction radius = pendulum_checked (pendulum_of load friction radius)

-- the first three numbers of a line, as fields
abbrev pub pendulum_on_line : List ℕ → Pendulum
pendulum_on_line p = pendulum_of (slice_index p 0) (slice_index p 1) (slice_index p 2)

-- the force, in newtons: 0 for fields that making refuses; the stiffness factor has no effect
abbrev pub pendulum_force : Pendulum → Curve
pendulum_force b = if_accepted (is_ok (pendulum_checked b)) (λ s k d. sliding_force b s d)

-- the energy, in newtons times tenths of a millimetre: 0 for fields that making refuses
abbrev pub pendulum_energy : Pendulum → Curve
pendulum_energy b = if_accepted (is_ok (pendulum_checked b)) (λ s k d. sliding_energy b s d)
