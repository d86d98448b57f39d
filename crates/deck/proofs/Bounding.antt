-- Every case line of an accepted sheet keeps the law of bounds. Assumes nothing.
use Rattle.std.proofs.Common.{◌≡◌, ℕ, ◌≤◌, true, ◌&&◌, leb, List, [], ◌∷◌, length, Ok, ap, arith}
use Rattle.std.proofs.lemmas.Bool.Decides.{nat_tests}
use Rattle.either.specs.declared.Either.{Either}
use Rattle.either.specs.Either.{either}
use Rattle.kinds.specs.declared.lead.LeadRubber.{LeadRubber}
use Rattle.kinds.specs.declared.sliding.Pendulum.{Pendulum}
use Rattle.bearing.specs.Ranges.{between}
use Rattle.bearing.specs.Laws.{Laws}
use Rattle.kinds.specs.Leads.{lead_force, lead_energy}
use Rattle.kinds.specs.Pendulums.{pendulum_force, pendulum_energy}
use Rattle.bearing.specs.Compounds.{either_laws, group_laws}
use Rattle.kinds.specs.LeadsLemmas.{lead_laws}
use Rattle.kinds.specs.PendulumsLemmas.{pendulum_laws}
use Rattle.either.specs.declared.Either.TheVariants.{Left, Right}
use Rattle.damping.specs.Rule.{RuleLaws}
use Rattle.damping.specs.Growth.{table_laws}
use Rattle.damping.specs.Reduction.{eurocode_laws}
use Rattle.loading.specs.Making.{weight_made, case_field, case_made}
use Rattle.bridge.specs.Outcomes.{outcome_of}
use Rattle.bridge.specs.Replay.{Each}
use Rattle.loading.proofs.Demands.{demand_low, demand_top}
use Rattle.bridge.proofs.Covering.{answer_exists, query_law}
use Rattle.sheet.specs.RowLines.{Row, kind_force}
use Rattle.sheet.specs.CaseLines.{SheetRule, Numbers}
use Rattle.sheet.specs.Reading.{AllMade}
use Rattle.sheet.proofs.Rowwise.{of_then, of_cond}
use Rattle.sheet.proofs.Accepted.{accepted}
use Rattle.deck.specs.Whole.{row_force, row_energy, rule_says, case_outcome, outcomes}
use Rattle.deck.specs.Lawful.{LineLaw, PageLaw}

kind_laws : (b : Either LeadRubber Pendulum) → Laws (kind_force b) (either lead_energy pendulum_energy b)
kind_laws = either_laws lead_force lead_energy pendulum_force pendulum_energy lead_laws pendulum_laws

row_laws : (g : Row) → Laws (row_force g) (row_energy g)
row_laws g = group_laws (kind_laws g.member) g.count

rule_laws : (r : SheetRule) → RuleLaws (rule_says r)
rule_laws (Left x) = table_laws
rule_laws (Right y) = eurocode_laws

-- what is known of numbers that make a case
record Ordered (n : Numbers) : Type 0 where
  accel_low : 1 ≤ n.accel
  accel_top : n.accel ≤ 100
  s_ordered : n.slo ≤ n.shi
  k_ordered : n.klo ≤ n.khi

ordered : (n : Numbers) → case_made n ≡ Ok n → Ordered n
ordered n e =
    let a = of_then (case_field n.accel 1 100 1) _ n e in
    let b = of_then (case_field n.slo 50 300 3) _ n a.2 in
    let c = of_then (case_field n.shi 50 300 4) _ n b.2 in
    let d = of_then (case_field n.klo 50 300 5) _ n c.2 in
    let f = of_then (case_field n.khi 50 300 6) _ n d.2 in
    let ranged : between 1 100 n.accel ≡ true = (of_cond (between 1 100 n.accel) tt a.0 _ a.1).0 in
    let bounds : (leb n.slo n.shi && leb n.klo n.khi) ≡ true = (of_cond (leb n.slo n.shi && leb n.klo n.khi) n n _ f.2).0 in
    record { accel_low = grind (arith, nat_tests); accel_top = grind (arith, nat_tests); s_ordered = grind (arith, nat_tests); k_ordered = grind (arith, nat_tests) }

module _ (rows : List Row) (few : length rows ≤ 64) (W : ℕ) (low : 1 ≤ W) (top : W ≤ 1000000) where
  line_law : (n : Numbers) → case_made n ≡ Ok n → LineLaw rows W n (case_outcome rows W n)
  line_law n e =
      let o = ordered n e in
      let demanded = demand_low n W o.accel_low low in
      let limited = demand_top n W o.accel_top top in
      let a = answer_exists {force = row_force} {energy = row_energy} {says = rule_says} row_laws rule_laws rows few W n o.s_ordered o.k_ordered demanded limited in
      record {
        reply = a.0;
        is_shown = ap outcome_of a.1;
        law = query_law {force = row_force} {energy = row_energy} {says = rule_says} row_laws rule_laws rows few W n o.s_ordered o.k_ordered demanded limited a.0 a.1;
      }

  lines_law : (cases : List Numbers) → AllMade cases → Each (LineLaw rows W) cases (outcomes rows W cases)
  lines_law [] h = tt
  lines_law (n ∷ ns) h = (line_law n h.0, lines_law ns h.1)

weighed : (w : ℕ) → weight_made w ≡ Ok w → (1 ≤ w) × (w ≤ 1000000)
weighed w e =
    let ranged : between 1 1000000 w ≡ true = (of_cond (between 1 1000000 w) w w _ e).0 in
    (grind (arith, nat_tests), grind (arith, nat_tests))

pub page_law : (sheet : List ℕ) → PageLaw sheet
page_law sheet c e =
    let v = (accepted 64 16 sheet c e).valid in
    let w = weighed c.weight v.weighed in
    lines_law c.rows v.rows_fit c.weight w.0 w.1 c.cases v.cases_made
