-- A case line: number,accel,site,slo,shi,klo,khi,rule. Assumes nothing.
use Rattle.std.specs.Prelude.{ℕ, cond, List, Some, None, Ok, Err, codes, Option, Result, ◌==◌}
use Rattle.std.specs.Option.{ok_or}
use Rattle.bearing.specs.declared.fault.Fault.{Fault}
use Rattle.bearing.specs.declared.fault.Layer.TheVariants.{Sheet}
use Rattle.bearing.specs.Refusals.{out_of_range, and_then, at_field}
use Rattle.damping.specs.declared.table.TableRule.{TableRule}
use Rattle.damping.specs.declared.eurocode.EurocodeRule.{EurocodeRule}
use Rattle.either.specs.declared.Either.{Either}
use Rattle.either.specs.declared.Either.TheVariants.{Left, Right}
use Rattle.loading.specs.declared.loads.Site.{Site}
use Rattle.loading.specs.declared.loads.Site.TheVariants.{I, II, III, IV}
use Rattle.loading.specs.declared.loads.CaseNumbers.{CaseNumbers}
use Rattle.loading.specs.Making.{case_made}
use Rattle.sheet.specs.Parts.{first, is_text}
use Rattle.sheet.specs.Numbers.{option_then, field_then, number_field}
use Rattle.sheet.specs.RowLines.{form_fault}

-- the rule of a sheet: by the table or by the Eurocode
abbrev pub SheetRule : Type 0
SheetRule = Either TableRule EurocodeRule

abbrev pub Numbers : Type 0
Numbers = CaseNumbers SheetRule

-- a site by its name
abbrev pub site_named : List ℕ → Option Site
site_named text =
    cond (is_text (codes "I") text) (Some I)
    (cond (is_text (codes "II") text) (Some II)
    (cond (is_text (codes "III") text) (Some III)
    (cond (is_text (codes "IV") text) (Some IV) None)))

-- a rule by its letter
abbrev pub rule_named : List ℕ → Option SheetRule
rule_named text = cond (is_text (codes "T") text) (Some (Left (record {}))) (cond (is_text (codes "E") text) (Some (Right (record {}))) None)

-- a site, a comma, and the rest of the line
abbrev pub site_field : List ℕ → Option (Site × List ℕ)
site_field text = field_then (site_named (first 44 text)) text

-- a case line by its form: its number, and the numbers of the case
abbrev pub case_form : List ℕ → Option (ℕ × Numbers)
case_form text =
    option_then (number_field text) (λ n.
    option_then (number_field n.1) (λ accel.
    option_then (site_field accel.1) (λ site.
    option_then (number_field site.1) (λ slo.
    option_then (number_field slo.1) (λ shi.
    option_then (number_field shi.1) (λ klo.
    option_then (number_field klo.1) (λ khi.
    option_then (rule_named khi.1) (λ rule.
    Some (n.0, record { accel = accel.0; site = site.0; slo = slo.0; shi = shi.0; klo = klo.0; khi = khi.0; rule = rule })))))))))

-- the case that is numbered n: its number first (field 1), then its own numbers (from field 2 on)
abbrev pub case_of : ℕ → ℕ × Numbers → Result Numbers Fault
case_of n c = and_then (cond (c.0 == n) (Ok tt) (Err (out_of_range Sheet 1))) (λ (u : Unit {0}). at_field 1 (case_made c.1))

-- the case line that is numbered n
abbrev pub case_line : ℕ → List ℕ → Result Numbers Fault
case_line n text = and_then (ok_or (case_form text) form_fault) (case_of n)
