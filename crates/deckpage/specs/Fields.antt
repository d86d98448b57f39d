-- The fields of a sheet that hold numbers: which one it is, its name, and what is allowed there. Assumes nothing.
use Rattle.std.specs.Prelude.{ℕ, cond, List, codes, ◌==◌}
use Rattle.deckpage.specs.declared.fields.LineKind.{LineKind}
use Rattle.deckpage.specs.declared.fields.LineKind.TheVariants.{Weight, Lead, Pendulum, Case}
use Rattle.deckpage.specs.declared.fields.SheetField.{SheetField}
use Rattle.deckpage.specs.declared.fields.SheetField.TheVariants.{DeckWeight, Count, LeadDiameter, YieldStress, BondedDiameter, ShearModulus, RubberThickness, Load, Friction, Radius, Unused, CaseNumber, Acceleration, LowStrength, HighStrength, LowStiffness, HighStiffness}

-- the field of a row line of lead-rubber bearings, by its place from 1
abbrev pub lead_field : ℕ → SheetField
lead_field n =
    cond (n == 2) Count (cond (n == 3) LeadDiameter (cond (n == 4) YieldStress (cond (n == 5) BondedDiameter (cond (n == 6) ShearModulus RubberThickness))))

-- of a row line of pendulums
abbrev pub pendulum_field : ℕ → SheetField
pendulum_field n = cond (n == 2) Count (cond (n == 3) Load (cond (n == 4) Friction (cond (n == 5) Radius Unused)))

-- of a case line
abbrev pub case_field : ℕ → SheetField
case_field n =
    cond (n == 1) CaseNumber (cond (n == 2) Acceleration (cond (n == 4) LowStrength (cond (n == 5) HighStrength (cond (n == 6) LowStiffness HighStiffness))))

-- of any line
abbrev pub field_of : LineKind → ℕ → SheetField
field_of Weight n = DeckWeight
field_of Lead n = lead_field n
field_of Pendulum n = pendulum_field n
field_of Case n = case_field n

-- the name of a field, and what it is
abbrev pub name_of : SheetField → List ℕ
name_of DeckWeight = codes "weight"
name_of Count = codes "count"
name_of LeadDiameter = codes "p1, lead diameter"
name_of YieldStress = codes "p2, yield stress of lead"
name_of BondedDiameter = codes "p3, bonded diameter"
name_of ShearModulus = codes "p4, shear modulus"
name_of RubberThickness = codes "p5, rubber thickness"
name_of Load = codes "p1, load"
name_of Friction = codes "p2, friction"
name_of Radius = codes "p3, radius"
name_of Unused = codes "not used by a pendulum"
name_of CaseNumber = codes "case"
name_of Acceleration = codes "accel"
name_of LowStrength = codes "slo"
name_of HighStrength = codes "shi"
name_of LowStiffness = codes "klo"
name_of HighStiffness = codes "khi"

-- what a number that is refused there is not
abbrev pub allowed_of : SheetField → List ℕ
allowed_of DeckWeight = codes "is outside 1 to 1000000 kN"
allowed_of Count = codes "is outside 1 to 20"
allowed_of LeadDiameter = codes "is outside 10 to 400 mm"
allowed_of YieldStress = codes "is outside 50 to 200 tenths of MPa"
allowed_of BondedDiameter = codes "is outside 100 to 1500 mm"
allowed_of ShearModulus = codes "is outside 40 to 200 hundredths of MPa"
allowed_of RubberThickness = codes "is outside 20 to 1000 mm"
allowed_of Load = codes "is outside 10 to 20000 kN"
allowed_of Friction = codes "is outside 10 to 200 thousandths"
allowed_of Radius = codes "is outside 200 to 20000 mm"
allowed_of Unused = codes "is not 0"
allowed_of CaseNumber = codes "is not the next case number"
allowed_of Acceleration = codes "is outside 1 to 100 hundredths of g"
allowed_of LowStrength = codes "is outside 50 to 300 percent"
allowed_of HighStrength = codes "is outside 50 to 300 percent"
allowed_of LowStiffness = codes "is outside 50 to 300 percent"
allowed_of HighStiffness = codes "is outside 50 to 300 percent"
