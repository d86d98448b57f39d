-- The text of a bridge: its weight, its rows and its load cases, as a sheet. Assumes nothing.
use Rattle.std.specs.Prelude.{◌≡◌, ℕ, ◌+◌, ◌<◌, ◌≤◌, ◌↔◌, List, [], ◌∷◌, ◌++◌, map, length, Ok, codes, decimal}
use Rattle.std.specs.List.{AllByRecursion}
use Rattle.kinds.specs.declared.lead.LeadRubber.{LeadRubber}
use Rattle.kinds.specs.declared.sliding.Pendulum.{Pendulum}
use Rattle.either.specs.declared.Either.{Either}
use Rattle.either.specs.declared.Either.TheVariants.{Left, Right}
use Rattle.bearing.specs.Compound.{group_made}
use Rattle.kinds.specs.Leads.{lead_letter, lead_checked}
use Rattle.kinds.specs.Pendulums.{pendulum_letter, pendulum_checked}
use Rattle.either.specs.declared.Either.TheVariants as rules
use Rattle.loading.specs.declared.loads.Site.{Site}
use Rattle.loading.specs.declared.loads.Site.TheVariants.{I, II, III, IV}
use Rattle.loading.specs.Making.{weight_made}
use Rattle.sheet.specs.RowLines.{Row, kind_force}
use Rattle.sheet.specs.CaseLines.{SheetRule, Numbers}
use Rattle.sheet.specs.Machine.{weight_names, row_names, case_names}
use Rattle.sheet.specs.Reading.{Content, read_sheet, AllMade}

-- fields one after another, parted by one mark each
abbrev pub parted : ℕ → List (List ℕ) → List ℕ
parted m [] = []
parted m (f ∷ []) = f
parted m (f ∷ (g ∷ fs)) = f ++ (m ∷ parted m (g ∷ fs))

-- the letter of a bearing's kind
abbrev pub letter : Either LeadRubber Pendulum → ℕ
letter (Left b) = lead_letter
letter (Right b) = pendulum_letter

-- the five numbers of a bearing; a pendulum's last two are 0
abbrev pub five : Either LeadRubber Pendulum → List ℕ
five (Left b) = b.lead ∷ (b.stress ∷ (b.bonded ∷ (b.modulus ∷ (b.rubber ∷ []))))
five (Right b) = b.load ∷ (b.friction ∷ (b.radius ∷ (0 ∷ (0 ∷ []))))

-- the fields of a row: its letter, its count, p1 to p5
abbrev pub row_fields : Row → List (List ℕ)
row_fields r = (letter r.member ∷ []) ∷ map decimal (r.count ∷ five r.member)

-- the line of a row
abbrev pub row_text : Row → List ℕ
row_text r = parted 44 (row_fields r)

-- the name of a site
abbrev pub site_name : Site → List ℕ
site_name I = codes "I"
site_name II = codes "II"
site_name III = codes "III"
site_name IV = codes "IV"

-- the letter of a rule: T by the table, E by the Eurocode
abbrev pub rule_name : SheetRule → List ℕ
rule_name (rules.Left t) = codes "T"
rule_name (rules.Right e) = codes "E"

-- the fields of the k-th case: its number, its acceleration, its site, its four bounds, its rule
abbrev pub case_fields : ℕ → Numbers → List (List ℕ)
case_fields k n =
    decimal k ∷ (decimal n.accel ∷ (site_name n.site ∷ (decimal n.slo ∷ (decimal n.shi ∷ (decimal n.klo ∷ (decimal n.khi ∷ (rule_name n.rule ∷ [])))))))

-- the line of the k-th case
abbrev pub case_text : ℕ → Numbers → List ℕ
case_text k n = parted 44 (case_fields k n)

-- the lines of the cases, numbered from k on
abbrev pub case_lines : ℕ → List Numbers → List (List ℕ)
case_lines k [] = []
case_lines k (n ∷ ns) = case_text k n ∷ case_lines (k + 1) ns

-- the lines of a sheet: the weight, the rows and the cases, each under its names
abbrev pub sheet_lines : Content → List (List ℕ)
sheet_lines c =
    weight_names ∷ (decimal c.weight ∷ (row_names ∷ (map row_text c.rows ++ (case_names ∷ case_lines 1 c.cases))))

-- lines, each with byte 10 at its end
abbrev pub ended : List (List ℕ) → List ℕ
ended [] = []
ended (l ∷ ls) = l ++ (10 ∷ ended ls)

-- the text of a sheet
abbrev pub sheet_text : Content → List ℕ
sheet_text c = ended (sheet_lines c)

-- a bearing that making accepts
abbrev pub BearingMade : Either LeadRubber Pendulum → Type 0
BearingMade (Left b) = lead_checked b ≡ Ok b
BearingMade (Right b) = pendulum_checked b ≡ Ok b

-- a row that making accepts: its bearing, then its count and the greatest force of them all
pub record RowMade (r : Row) : Type 0 where
  pub bearing : BearingMade r.member
  pub group : group_made kind_force r.count r.member ≡ Ok r

-- a bridge with its load cases, where there are so many places for rows and for cases
pub record Valid (row_places case_places : ℕ) (c : Content) : Type 0 where
  pub weighed : weight_made c.weight ≡ Ok c.weight
  pub rows_some : 0 < length c.rows
  pub rows_fit : length c.rows ≤ row_places
  pub rows_made : AllByRecursion RowMade c.rows
  pub cases_some : 0 < length c.cases
  pub cases_fit : length c.cases ≤ case_places
  pub cases_made : AllMade c.cases

-- a sheet that is the text of such a bridge
pub record IsText (row_places case_places : ℕ) (sheet : List ℕ) (c : Content) : Type 0 where
  pub valid : Valid row_places case_places c
  pub text : sheet ≡ sheet_text c

-- a sheet is accepted exactly when it is the text of some bridge, and what is read is that bridge
abbrev pub TextLaw : ℕ → ℕ → List ℕ → Type 0
TextLaw row_places case_places sheet =
    (c : Content) → (read_sheet row_places case_places sheet ≡ Ok c) ↔ IsText row_places case_places sheet c
