-- The checks that all making has in common. Assumes nothing.
use Rattle.std.specs.Prelude.{ℕ, cond, Ok, Err, Result, nat_le}
use Rattle.bearing.specs.declared.fault.Refusal.TheVariants.{TooStrong}
use Rattle.bearing.specs.declared.fault.Layer.{Layer}
use Rattle.bearing.specs.declared.fault.Layer.TheVariants.{Bearing}
use Rattle.bearing.specs.declared.fault.Fault.{Fault}
use Rattle.bearing.specs.Ranges.{between, top_force}
use Rattle.bearing.specs.Refusals.{out_of_range, plain_fault}

-- a number outside its range is refused with its field
abbrev pub range_checked : Layer → ℕ → ℕ → ℕ → ℕ → Result (Unit {0}) Fault
range_checked layer x low high field = cond (between low high x) (Ok tt) (Err (out_of_range layer field))

-- a field of a bearing outside its range is refused with its place among the bearing's fields
abbrev pub field_checked : ℕ → ℕ → ℕ → ℕ → Result (Unit {0}) Fault
field_checked x low high place = range_checked Bearing x low high place

-- what has a greatest force, in newtons, above the limit is refused
abbrev pub force_checked : {T : Type 0} → Layer → ℕ → T → Result T Fault
force_checked layer greatest b = cond (nat_le greatest top_force) (Ok b) (Err (plain_fault TooStrong layer))
