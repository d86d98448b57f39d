-- The lines of a page, byte for byte. A line ends with byte 10, and fields are parted by one comma. Assumes nothing.
use Rattle.std.specs.Prelude.{ℕ, ◌+◌, Bool, cond, List, ◌++◌, length, take, drop, Some, None, codes, decimal, Option}
use Rattle.bearing.specs.declared.fault.Fault.{Fault}
use Rattle.bearing.specs.Refusals.{number_of, layer_number}
use Rattle.bridge.specs.Outcomes.{Outcome, Answered, Refused, outcome_number}

-- the bytes old with a text written over them from the place at
abbrev pub written : List ℕ → ℕ → List ℕ → List ℕ
written old at text = take at old ++ (text ++ drop (at + length text) old)

-- a field and the comma after it
abbrev pub then_comma : List ℕ → List ℕ
then_comma text = text ++ codes ","

-- the first line of a page, 44 bytes
unfoldable pub names_line : List ℕ
names_line = codes "case,answer,dlow,dhigh,force,clear,restores\n"

-- a displacement, in tenths of a millimetre, or `-` where it is absent
abbrev pub shown : Option ℕ → List ℕ
shown (Some d) = decimal d
shown None = codes "-"

-- the last field of a case line, and the line end
abbrev pub yes_or_no : Bool → List ℕ
yes_or_no b = cond b (codes "Y\n") (codes "N\n")

-- the five values and the line end; `-` for each value of a refused case
unfoldable pub values_text : Outcome → List ℕ
values_text (Answered v) =
    then_comma (shown v.dlow) ++ then_comma (shown v.dhigh) ++ then_comma (decimal v.force) ++ then_comma (decimal v.clear) ++ yes_or_no v.restores
values_text (Refused n) = codes "-,-,-,-,-\n"

-- a case line: its place from 1, the answer (0, or the number of the refusal) and the five values
unfoldable pub case_line : ℕ → Outcome → List ℕ
case_line place o = then_comma (decimal place) ++ then_comma (decimal (outcome_number o)) ++ values_text o

-- the last line of a page that is ended: how many case lines it has
unfoldable pub end_line : ℕ → List ℕ
end_line count = codes "end," ++ decimal count ++ codes "\n"

-- the last line of a page that is voided
abbrev pub void_line : List ℕ
void_line = codes "void\n"

-- the first line of a refusal page, 25 bytes
unfoldable pub refusal_names : List ℕ
refusal_names = codes "refused,layer,line,field\n"

-- the second line of a refusal page: number, layer, line and field of the fault
unfoldable pub refusal_line : Fault → List ℕ
refusal_line e =
    then_comma (decimal (number_of e.refusal)) ++ then_comma (decimal (layer_number e.layer)) ++ then_comma (decimal e.line) ++ decimal e.field ++ codes "\n"

-- a whole refusal page
abbrev pub refusal_page : Fault → List ℕ
refusal_page e = refusal_names ++ refusal_line e
