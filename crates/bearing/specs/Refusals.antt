-- The number of each refusal and of each layer, and how a fault is passed up. Assumes nothing.
use Rattle.std.specs.Prelude.{ℕ, ◌+◌, min, cond, Ok, Err, Result, ◌==◌}
use Rattle.bearing.specs.declared.fault.Refusal.{Refusal}
use Rattle.bearing.specs.declared.fault.Refusal.TheVariants.{OutOfRange, LeadTooWide, TooStrong, NoPlace, NothingHung, NoRows, BoundsReversed, BeyondRange, NoSuchRow, PageFull, TooManyLines, NamesLine, ValueLine, SheetTooLong}
use Rattle.bearing.specs.declared.fault.Layer.{Layer}
use Rattle.bearing.specs.declared.fault.Layer.TheVariants.{Bearing, Bridge, Sheet}
use Rattle.bearing.specs.declared.fault.Fault.{Fault}

-- the number of a refusal, as a page shows it
abbrev pub number_of : Refusal → ℕ
number_of OutOfRange = 1
number_of LeadTooWide = 2
number_of TooStrong = 3
number_of NoPlace = 4
number_of NothingHung = 5
number_of NoRows = 6
number_of BoundsReversed = 7
number_of BeyondRange = 8
number_of NoSuchRow = 9
number_of PageFull = 10
number_of TooManyLines = 11
number_of NamesLine = 12
number_of ValueLine = 13
number_of SheetTooLong = 14

-- the number of a layer, as a page shows it
abbrev pub layer_number : Layer → ℕ
layer_number Bearing = 1
layer_number Bridge = 2
layer_number Sheet = 3

-- a fault off a sheet: its line is 0
abbrev pub fault_of : Refusal → Layer → ℕ → Fault
fault_of w layer field = record { refusal = w; layer = layer; line = 0; field = field }

-- a number outside its range, in a field of a layer, off a sheet
abbrev pub out_of_range : Layer → ℕ → Fault
out_of_range layer field = fault_of OutOfRange layer field

-- any other refusal of a layer, off a sheet: it names no field
abbrev pub plain_fault : Refusal → Layer → Fault
plain_fault w layer = fault_of w layer 0

-- on its way to a line, a fault's field, if it names one, is counted further by some places
abbrev pub further_fault : ℕ → Fault → Fault
further_fault by e = record { refusal = e.refusal; layer = e.layer; line = e.line; field = cond (e.field == 0) 0 (min (e.field + by) 255) }

abbrev pub at_field : {T : Type 0} → ℕ → Result T Fault → Result T Fault
at_field by (Ok x) = Ok x
at_field by (Err e) = Err (further_fault by e)

-- on its way to the sheet, a fault gets its line
abbrev pub lined_fault : ℕ → Fault → Fault
lined_fault line e = record { refusal = e.refusal; layer = e.layer; line = line; field = e.field }

abbrev pub on_line : {T : Type 0} → ℕ → Result T Fault → Result T Fault
on_line line (Ok x) = Ok x
on_line line (Err e) = Err (lined_fault line e)

-- one call after another: the first refusal is passed up
abbrev pub and_then : {S T : Type 0} → Result S Fault → (S → Result T Fault) → Result T Fault
and_then (Ok x) f = f x
and_then (Err e) f = Err e

-- a result by a part of its value
abbrev pub with_ok : {S T : Type 0} → Result S Fault → (S → T) → Result T Fault
with_ok (Ok x) f = Ok (f x)
with_ok (Err e) f = Err e

-- an answer as one number: 0, or the number of its refusal
abbrev pub refusal_number : {T : Type 0} → Result T Fault → ℕ
refusal_number (Ok x) = 0
refusal_number (Err e) = number_of e.refusal
