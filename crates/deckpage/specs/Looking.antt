-- Where in a sheet a fault lies. Assumes nothing.
use Rattle.std.specs.Prelude.{ℕ, ◌-◌, cond, List, [], ◌∷◌, Some, None, Option, ◌==◌, slice_index_or}
use Rattle.bearing.specs.declared.fault.Fault.{Fault}
use Rattle.sheet.specs.Parts.{parts}
use Rattle.sheet.specs.Numbers.{parsed}
use Rattle.deckpage.specs.declared.fields.LineKind.{LineKind}
use Rattle.deckpage.specs.declared.fields.LineKind.TheVariants.{Weight, Lead, Pendulum, Case}
use Rattle.deckpage.specs.declared.looking.Spot.{Spot}
use Rattle.deckpage.specs.declared.looking.Spot.TheVariants.{Whole, Line, Number}
use Rattle.deckpage.specs.Fields.{field_of}

-- the n-th part of a text between marks, counted from 1; nothing where there are fewer
abbrev pub part_at : ℕ → ℕ → List ℕ → List ℕ
part_at mark n text = slice_index_or (parts mark text) (n - 1) []

-- by its first byte, L or P, a line is a row; else it is a case
abbrev pub kind_by_letter : List ℕ → LineKind
kind_by_letter [] = Case
kind_by_letter (x ∷ xs) = cond (x == 76) Lead (cond (x == 80) Pendulum Case)

-- what a line holds: the weight stands in the second
abbrev pub kind_at : ℕ → List ℕ → LineKind
kind_at line text = cond (line == 2) Weight (kind_by_letter text)

-- the number that stands in the field, if one does
abbrev pub number_spot : ℕ → ℕ → List ℕ → Option ℕ → Spot
number_spot line field text None = Line line
number_spot line field text (Some n) = Number line field (record { field = field_of (kind_at line text) field; number = n })

-- what a fault names of a sheet: nothing, a line, or a field of a line with its number
abbrev pub spot_of : List ℕ → Fault → Spot
spot_of sheet e =
    cond (e.line == 0) Whole
    (cond (e.field == 0) (Line e.line)
    (number_spot e.line e.field (part_at 10 e.line sheet) (parsed (part_at 44 e.field (part_at 10 e.line sheet)))))
