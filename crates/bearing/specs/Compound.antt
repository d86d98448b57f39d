-- A group of equal bearings. Assumes nothing.
use Rattle.std.specs.Prelude.{ℕ, ◌*◌, cond, Result, nat_le}
use Rattle.bearing.specs.declared.fault.Layer.TheVariants.{Bridge}
use Rattle.bearing.specs.declared.fault.Fault.{Fault}
use Rattle.bearing.specs.declared.compound.Group.{Group}
use Rattle.bearing.specs.Ranges.{top_force}
use Rattle.bearing.specs.Laws.{Curve}
use Rattle.bearing.specs.Curves.{clamped}
use Rattle.bearing.specs.Refusals.{and_then}
use Rattle.bearing.specs.Fields.{range_checked, force_checked}

-- how many bearings a group of n counts as, where one has the force f: 1 where n are above the limit
abbrev pub counted : ℕ → Curve → ℕ
counted n f = cond (nat_le (n * f 300 300 10000) top_force) n 1

-- n times a force or an energy
abbrev pub times : ℕ → Curve → Curve
times n f s k d = n * f s k d

-- the force of a group, in newtons, by that of its member
abbrev pub group_force : {B : Type 0} → (B → Curve) → Group B → Curve
group_force force g = clamped (times (counted g.count (force g.member)) (force g.member))

-- the energy of a group, in newtons times tenths of a millimetre, by force and energy of its member
abbrev pub group_energy : {B : Type 0} → (B → Curve) → (B → Curve) → Group B → Curve
group_energy force energy g = clamped (times (counted g.count (force g.member)) (energy g.member))

-- the group of n such bearings, accepted or not
abbrev pub group_of : {B : Type 0} → ℕ → B → Group B
group_of n b = record { count = n; member = b }

-- a group has 1 to 20 bearings
abbrev pub count_checked : ℕ → Result (Unit {0}) Fault
count_checked n = range_checked Bridge n 1 20 1

-- the group of 1 to 20 such bearings, or why it is refused: the count first, then the greatest force
abbrev pub group_made : {B : Type 0} → (B → Curve) → ℕ → B → Result (Group B) Fault
group_made force n b =
    and_then (count_checked n) (λ _.
    force_checked Bridge (n * force b 300 300 10000) (group_of n b))
