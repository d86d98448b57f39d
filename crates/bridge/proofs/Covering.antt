-- An answered load case covers every choice of factors that the case allows. Assumes nothing.
use Rattle.std.proofs.Common.{◌≡◌, ℕ, ◌-◌, ◌<◌, ◌≤◌, Bool, true, false, cond, ltb, ◌↔◌, List, length, Some, None, Ok, Err, Option, Result, sym, refl, ap, ◌∙◌, subst, ⊎_elim, le_refl, arith, ltb-false, ltb-true}
use Rattle.bearing.specs.declared.fault.Fault.{Fault}
use Rattle.bearing.specs.declared.fault.Refusal.TheVariants.{NoRows, BeyondRange, NoSuchRow}
use Rattle.bearing.specs.declared.fault.Layer.TheVariants.{Bridge}
use Rattle.bearing.specs.Refusals.{plain_fault, number_of}
use Rattle.bearing.specs.Ranges.{between}
use Rattle.bearing.specs.Laws.{Laws, Curve}
use Rattle.std.proofs.lemmas.Bool.Decides.{nat_tests}
use Rattle.damping.specs.Rule.{RuleLaws}
use Rattle.loading.specs.declared.loads.CaseNumbers.{CaseNumbers}
use Rattle.bridge.specs.declared.replies.Answer.{Answer}
use Rattle.loading.specs.Making.{demand}
use Rattle.bridge.specs.Sums.{Choice, at_row, total}
use Rattle.bridge.specs.Design.{Design, design}
use Rattle.bridge.specs.Answers.{lowest, highest, clearance, restoring, half_of, meets, values_at, answer_at, queried, row_answer_at, row_queried}
use Rattle.bridge.specs.Outcomes.{Values, Refused, outcome, outcome_of, reported, values_of, RowAnswered, RowRefused, row_outcome}
use Rattle.bridge.specs.Bounds.{Inside, Covers, NoneMeets, QueryLaw, RowLaw}
use Rattle.bridge.proofs.Totals.{Below, total_grows, row_grows, met_grows}
use Rattle.bridge.proofs.Firsts.{Designed, design_is, design_least, true_false}

-- where a displacement meets, there is a design displacement, and it is no greater
pub record Reached (m : ℕ → Bool) (e d : ℕ) : Type 0 where
  pub found : design m ≡ Some d
  pub designs : Design m d
  pub at_most : d ≤ e

pub reached : (m : ℕ → Bool) (e : ℕ) → 1 ≤ e → e ≤ 10000 → m e ≡ true → (d : ℕ) × Reached m e d
reached m e low high passed = go (design m) refl (design_is m)
  where
    go : (o : Option ℕ) → design m ≡ o → Designed m o → (d : ℕ) × Reached m e d
    go (Some d) is h = (d, record { found = is; designs = h; at_most = design_least m d e h low passed })
    go None is h = absurd (true_false (sym passed ∙ h e low high))

-- a design displacement that the scan found
pub design_found : (m : ℕ → Bool) (d : ℕ) → design m ≡ Some d → Design m d
design_found m d is = go (design m) (design_is m) is
  where
    go : (o : Option ℕ) → Designed m o → o ≡ Some d → Design m d
    go (Some e) h is' = let same : e ≡ d = cc in subst (Design m) same h
    go None h is' = absurd (let z : ◌≡◌ {A = ℕ} 0 1 = cc in omega arith)

le_as : {x y z : ℕ} → x ≤ y → y ≡ z → x ≤ z
le_as h e = omega arith

module _ {B R : Type 0} {force energy : B → Curve} {says : R → ℕ → ℕ → ℕ → Bool}
    (laws : (b : B) → Laws (force b) (energy b)) (keeps : (r : R) → RuleLaws (says r)) (rows : List B) (few : length rows ≤ 64) (W : ℕ)
    (c : CaseNumbers R) (s_ordered : c.slo ≤ c.shi) (k_ordered : c.klo ≤ c.khi) (demanded : 1 ≤ demand c W) (limited : demand c W ≤ 20000000000000) where
  abbrev Allowed : Choice → Type 0
  Allowed φ = (i : ℕ) → i < length rows → Inside c (φ i)

  low_below : (φ : Choice) → Allowed φ → (i : ℕ) → i < length rows → Below (lowest c i) (φ i)
  low_below φ h i l = record { s_below = (h i l).s_from; k_below = (h i l).k_from }

  high_above : (φ : Choice) → Allowed φ → (i : ℕ) → i < length rows → Below (φ i) (highest c i)
  high_above φ h i l = record { s_below = (h i l).s_to; k_below = (h i l).k_to }

  low_high : (i : ℕ) → Below (lowest c i) (highest c i)
  low_high i = record { s_below = s_ordered; k_below = k_ordered }

  grows : (φ ψ : Choice) (d e : ℕ) → ((i : ℕ) → i < length rows → Below (φ i) (ψ i)) → d ≤ e → e ≤ 10000 →
      meets force energy says rows W c φ d ≡ true → meets force energy says rows W c ψ e ≡ true
  grows φ ψ d e below up near = met_grows laws (keeps c.rule) rows φ ψ (demand c W) d e few demanded limited below up near

  module _ (dlow : ℕ) (low : Design (meets force energy says rows W c (lowest c)) dlow) where
    at : (φ : Choice) → ((i : ℕ) → i < length rows → Below (lowest c i) (φ i)) → (d : ℕ) × Reached (meets force energy says rows W c φ) dlow d
    at φ below = reached _ dlow low.from_one low.to_last (grows (lowest c) φ dlow dlow below (le_refl dlow) low.to_last low.passed)

    -- the design displacement at the highest factors is there
    pub high_found : (d : ℕ) × Reached (meets force energy says rows W c (highest c)) dlow d
    high_found = at (highest c) (λ i _. low_high i)

  -- by the parts of an answer, the record
  covered : (a : Answer) → Design (meets force energy says rows W c (lowest c)) a.dlow → Design (meets force energy says rows W c (highest c)) a.dhigh →
      a.force ≡ total force rows (highest c) a.dlow → a.clear ≡ clearance a.dlow →
      a.restores ≡ restoring (total force rows (lowest c) a.dlow) (total force rows (lowest c) (half_of a.dlow)) W → Covers force energy says rows W c a
  covered a low high most clear restores =
      record {
        low = low;
        high = high;
        reported = most;
        clear = clear;
        restores = restores;
        lowest_misses = low.first;
        lowest_meets = λ d up near. grows (lowest c) (lowest c) a.dlow d (λ i _. record { s_below = le_refl _; k_below = le_refl _ }) up near low.passed;
        every = λ φ h. let r = at a.dlow low φ (low_below φ h) in (
          r.0,
          record {
            designs = r.1.designs;
            at_most = r.1.at_most;
            at_least = design_least _ a.dhigh r.0 high r.1.designs.from_one
                (grows φ (highest c) r.0 r.0 (high_above φ h) (le_refl _) r.1.designs.to_last r.1.designs.passed);
            force_bound = le_as (total_grows force (λ b. (laws b).force_grows) rows φ (highest c) r.0 a.dlow (high_above φ h) r.1.at_most) (sym most);
            rows_bound = λ i _. row_grows force (λ b. (laws b).force_grows) rows φ (highest c) i r.0 a.dlow (high_above φ h) r.1.at_most;
          },
        );
      }

  -- of the values of an answer, the record
  covers : (a : Answer) (dlow : ℕ) → Design (meets force energy says rows W c (lowest c)) dlow →
      Ok (values_at force energy says rows W c dlow) ≡ reported (Ok a) → Covers force energy says rows W c a
  covers a dlow low is =
      let values : values_at force energy says rows W c dlow ≡ values_of a = cc in
      let same_low : Some dlow ≡ Some a.dlow = ap (λ (v : Values). v.dlow) values in
      let same : dlow ≡ a.dlow = cc in
      covered a
      (subst (Design (meets force energy says rows W c (lowest c))) same low)
      (design_found (meets force energy says rows W c (highest c)) a.dhigh (ap (λ (v : Values). v.dhigh) values))
      (sym (ap (λ (v : Values). v.force) values) ∙ ap (λ (d : ℕ). total force rows (highest c) d) same)
      (sym (ap (λ (v : Values). v.clear) values) ∙ ap clearance same)
      (sym (ap (λ (v : Values). v.restores) values) ∙ ap (λ (d : ℕ). restoring (total force rows (lowest c) d) (total force rows (lowest c) (half_of d)) W) same)

  -- an answer that is the defined one keeps the law
  pub query_law : (r : Result Answer Fault) → reported r ≡ queried force energy says rows W c → QueryLaw force energy says rows W c r
  query_law r is = go (ltb 0 (length rows)) refl (design (meets force energy says rows W c (lowest c))) (design_is _) r is
    where
      answered : (o : Option ℕ) → Designed (meets force energy says rows W c (lowest c)) o → (r : Result Answer Fault) → reported r ≡ answer_at force energy says rows W c o →
          ((outcome r ≡ Refused (number_of BeyondRange)) ↔ NoneMeets force energy says rows W c) ×
          ((NoneMeets force energy says rows W c → ⊥) → (a : Answer) × (r ≡ Ok a) × Covers force energy says rows W c a)
      answered (Some dlow) low (Ok a) is = (
        (λ e. absurd (let z : ◌≡◌ {A = ℕ} 0 1 = cc in omega arith), λ absent. absurd (true_false (sym low.passed ∙ absent dlow low.from_one low.to_last))),
        λ _. (a, refl, covers a dlow low (sym is)),
      )
      answered (Some dlow) low (Err e) is = absurd (let z : ◌≡◌ {A = ℕ} 0 1 = cc in omega arith)
      answered None absent (Ok a) is = absurd (let z : ◌≡◌ {A = ℕ} 0 1 = cc in omega arith)
      answered None absent (Err e) is = ((λ _. absent, λ _. ap outcome_of is), λ some. absurd (some absent))

      go : (b : Bool) → ltb 0 (length rows) ≡ b → (o : Option ℕ) → Designed (meets force energy says rows W c (lowest c)) o → (r : Result Answer Fault) →
          reported r ≡ cond b (answer_at force energy says rows W c o) (Err (plain_fault NoRows Bridge)) → QueryLaw force energy says rows W c r
      go true is o h r e =
          let some = ltb-true 0 (length rows) is in
          let all = answered o h r e in
          record { no_rows = λ none. absurd (omega arith); beyond = λ _. all.0; otherwise = λ _. all.1 }
      go false is o h r e =
          let none = ltb-false 0 (length rows) is in
          record { no_rows = λ _. ap outcome_of e; beyond = λ some. absurd (omega arith); otherwise = λ some. absurd (omega arith) }

  -- the answer that a query gives where the demand is met
  answer_of : (dlow : ℕ) → Design (meets force energy says rows W c (lowest c)) dlow → (a : Answer) × Covers force energy says rows W c a × (a.dlow ≡ dlow)
  answer_of dlow low =
      let top = high_found dlow low in (
        record { dlow = dlow; dhigh = top.0; force = total force rows (highest c) dlow; clear = clearance dlow; restores = restoring (total force rows (lowest c) dlow) (total force rows (lowest c) (half_of dlow)) W },
        covered _ low top.1.designs refl refl refl,
        refl,
      )

  -- a row query's answer that is the defined one keeps the law
  pub row_law : (n : ℕ) (r : Result ℕ Fault) → r ≡ row_queried force energy says rows W c n → RowLaw force energy says rows W c n r
  row_law n r is = subst (RowLaw force energy says rows W c n) (sym is) (go (ltb 0 (length rows)) refl (between 1 (length rows) n) refl (design (meets force energy says rows W c (lowest c))) (design_is _))
    where
      answered : (o : Option ℕ) → Designed (meets force energy says rows W c (lowest c)) o →
          ((row_outcome (row_answer_at force energy says rows W c n o) ≡ RowRefused (number_of BeyondRange)) ↔ NoneMeets force energy says rows W c) ×
          ((NoneMeets force energy says rows W c → ⊥) → (a : Answer) × (row_outcome (row_answer_at force energy says rows W c n o) ≡ RowAnswered (at_row force rows (highest c) (n - 1) a.dlow)) × Covers force energy says rows W c a)
      answered (Some dlow) low =
          let a = answer_of dlow low in (
            (λ e. absurd (let z : ◌≡◌ {A = ℕ} 0 1 = cc in omega arith), λ absent. absurd (true_false (sym low.passed ∙ absent dlow low.from_one low.to_last))),
            λ _. (a.0, ap (λ (d : ℕ). RowAnswered (at_row force rows (highest c) (n - 1) d)) (sym a.2), a.1),
          )
      answered None absent = ((λ _. absent, λ _. refl), λ some. absurd (some absent))

      go : (b : Bool) → ltb 0 (length rows) ≡ b → (t : Bool) → between 1 (length rows) n ≡ t → (o : Option ℕ) → Designed (meets force energy says rows W c (lowest c)) o →
          RowLaw force energy says rows W c n (cond b (cond t (row_answer_at force energy says rows W c n o) (Err (plain_fault NoSuchRow Bridge))) (Err (plain_fault NoRows Bridge)))
      go true is true t o h =
          let some = ltb-true 0 (length rows) is in
          let low : 1 ≤ n = grind (arith, nat_tests) in
          let high : n ≤ length rows = grind (arith, nat_tests) in
          let all = answered o h in
          record {
            no_rows = λ e. absurd (omega arith);
            no_row = λ _ out. absurd (⊎_elim (λ (l : n < 1). omega arith) (λ (l : length rows < n). omega arith) out);
            beyond = λ _ _. all.0;
            otherwise = λ _ _. all.1;
          }
      go true is false t o h =
          let some = ltb-true 0 (length rows) is in
          let never : 1 ≤ n → n ≤ length rows → ⊥ = λ l u. grind (arith, nat_tests) in
          record { no_rows = λ e. absurd (omega arith); no_row = λ _ _. refl; beyond = λ l u. absurd (never l u); otherwise = λ l u. absurd (never l u) }
      go false is t' t o h =
          let none = ltb-false 0 (length rows) is in
          record { no_rows = λ _. refl; no_row = λ some. absurd (omega arith); beyond = λ l u. absurd (omega arith); otherwise = λ l u. absurd (omega arith) }

  -- there is an answer that is the defined one
  pub answer_exists : (r : Result Answer Fault) × (reported r ≡ queried force energy says rows W c)
  answer_exists = go (ltb 0 (length rows)) (design (meets force energy says rows W c (lowest c))) (design_is _)
    where
      go : (b : Bool) (o : Option ℕ) → Designed (meets force energy says rows W c (lowest c)) o →
          (r : Result Answer Fault) × (reported r ≡ cond b (answer_at force energy says rows W c o) (Err (plain_fault NoRows Bridge)))
      go true (Some dlow) low =
          let top = high_found dlow low in (
            Ok (record { dlow = dlow; dhigh = top.0; force = total force rows (highest c) dlow; clear = clearance dlow; restores = restoring (total force rows (lowest c) dlow) (total force rows (lowest c) (half_of dlow)) W }),
            ap (λ (h : Option ℕ). Ok (record { dlow = Some dlow; dhigh = h; force = total force rows (highest c) dlow; clear = clearance dlow; restores = restoring (total force rows (lowest c) dlow) (total force rows (lowest c) (half_of dlow)) W })) (sym top.1.found),
          )
      go true None absent = (Err (plain_fault BeyondRange Bridge), refl)
      go false o h = (Err (plain_fault NoRows Bridge), refl)
