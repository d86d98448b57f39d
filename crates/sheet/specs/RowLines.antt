-- A row line: the kind's letter, a comma, and the rest: count,p1,p2,p3,p4,p5. Assumes nothing.
use Rattle.std.specs.Prelude.{ℕ, ◌+◌, cond, ◌&&◌, List, [], ◌∷◌, Some, Ok, Err, Option, Result, ◌==◌, nat_le, nat_lt}
use Rattle.std.specs.Option.{ok_or}
use Rattle.bearing.specs.declared.fault.Fault.{Fault}
use Rattle.bearing.specs.declared.fault.Refusal.TheVariants.{NamesLine, ValueLine}
use Rattle.bearing.specs.declared.fault.Layer.TheVariants.{Bearing, Sheet}
use Rattle.kinds.specs.declared.lead.LeadRubber.{LeadRubber}
use Rattle.kinds.specs.declared.sliding.Pendulum.{Pendulum}
use Rattle.either.specs.declared.Either.{Either}
use Rattle.either.specs.declared.Either.TheVariants.{Left, Right}
use Rattle.bearing.specs.declared.compound.Group.{Group}
use Rattle.bearing.specs.Refusals.{plain_fault, out_of_range, and_then, at_field}
use Rattle.bearing.specs.Laws.{Curve}
use Rattle.bearing.specs.Compound.{count_checked, group_made}
use Rattle.either.specs.Either.{either}
use Rattle.kinds.specs.Leads.{lead_letter, lead_fields, lead_ranged, lead_checked, lead_on_line, lead_force}
use Rattle.kinds.specs.Pendulums.{pendulum_letter, pendulum_fields, pendulum_ranged, pendulum_checked, pendulum_on_line, pendulum_force}
use Rattle.sheet.specs.Numbers.{option_then, number_field, sized}
use Rattle.sheet.specs.Parts.{fields}

-- a value line that is not of its form
abbrev pub form_fault : Fault
form_fault = plain_fault ValueLine Sheet

-- a names line that differs, or a line that is due where the sheet ends
abbrev pub names_fault : Fault
names_fault = plain_fault NamesLine Sheet

-- a row of a sheet: a group of equal lead-rubber or pendulum bearings
abbrev pub Row : Type 0
Row = Group (Either LeadRubber Pendulum)

-- the force of one of a row's bearings
abbrev pub kind_force : Either LeadRubber Pendulum → Curve
kind_force = either lead_force pendulum_force

-- the count, and the five numbers after it
abbrev pub row_form : List ℕ → Option (ℕ × List ℕ)
row_form text = option_then (number_field text) (λ c. option_then (sized 5 (fields c.1)) (λ p. Some (c.0, p)))

-- each number from place j on that is past the kind's own fields is 0; else it is refused with its place, counted from 1
abbrev pub unused_zero : ℕ → ℕ → List ℕ → Result (Unit {0}) Fault
unused_zero own j [] = Ok tt
unused_zero own j (x ∷ xs) = cond (nat_le own j && nat_lt 0 x) (Err (out_of_range Bearing (j + 1))) (unused_zero own (j + 1) xs)

-- a bearing of a kind by five numbers: the kind's own in their ranges, the others 0, and then the rest of its making
abbrev pub bearing_of : {K : Type 0} → ℕ → (List ℕ → Result (Unit {0}) Fault) → (List ℕ → Result K Fault) → List ℕ → Result K Fault
bearing_of own ranged made p = and_then (ranged p) (λ _. and_then (unused_zero own 0 p) (λ _. made p))

-- a kind's row: the count (field 2) in its range, then the bearing (its fields from field 3 on)
abbrev pub row_of : {K : Type 0} → ℕ → (List ℕ → Result (Unit {0}) Fault) → (List ℕ → Result K Fault) → ℕ × List ℕ → Result (ℕ × K) Fault
row_of own ranged made c =
    and_then (at_field 1 (count_checked c.0)) (λ _. and_then (at_field 2 (bearing_of own ranged made c.1)) (λ b. Ok (c.0, b)))

abbrev pub kind_row : {K : Type 0} → ℕ → (List ℕ → Result (Unit {0}) Fault) → (List ℕ → Result K Fault) → List ℕ → Result (ℕ × K) Fault
kind_row own ranged made text = and_then (ok_or (row_form text) form_fault) (row_of own ranged made)

-- a row of lead-rubber bearings
abbrev pub lead_row : List ℕ → Result Row Fault
lead_row text =
    and_then (kind_row lead_fields (λ p. lead_ranged (lead_on_line p)) (λ p. lead_checked (lead_on_line p)) text)
    (λ c. group_made kind_force c.0 (Left c.1))

-- a row of pendulum bearings
abbrev pub pendulum_row : List ℕ → Result Row Fault
pendulum_row text =
    and_then (kind_row pendulum_fields (λ p. pendulum_ranged (pendulum_on_line p)) (λ p. pendulum_checked (pendulum_on_line p)) text)
    (λ c. group_made kind_force c.0 (Right c.1))

-- a row line by its letter; another letter, or no comma after it, is not of the form
abbrev pub row_line : List ℕ → Result Row Fault
row_line [] = Err form_fault
row_line (k ∷ []) = Err form_fault
row_line (k ∷ (c ∷ text)) =
    cond (c == 44) (cond (k == lead_letter) (lead_row text) (cond (k == pendulum_letter) (pendulum_row text) (Err form_fault))) (Err form_fault)
