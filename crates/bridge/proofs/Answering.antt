-- What a query finds, against what it answers by definition. Assumes nothing.
use Rattle.std.proofs.Common.{◌≡◌, ℕ, ◌-◌, ◌≤◌, Bool, ltb, List, length, is_some, Some, None, Ok, Option, ap, ◌∙◌, arith}
use Rattle.std.specs.Option.{IsSome, ok_or}
use Rattle.std.proofs.lemmas.Bool.{cond-true, lt-ltb, le-leb, and_from}
use Rattle.bearing.specs.declared.fault.Fault.{Fault}
use Rattle.bearing.specs.Ranges.{between}
use Rattle.bearing.specs.Checks.{clash}
use Rattle.bearing.specs.Laws.{Laws, Curve}
use Rattle.damping.specs.Rule.{RuleLaws}
use Rattle.loading.specs.declared.loads.CaseNumbers.{CaseNumbers}
use Rattle.loading.specs.Making.{demand}
use Rattle.bridge.specs.Sums.{at_row}
use Rattle.bridge.specs.Design.{design}
use Rattle.bridge.specs.Answers.{lowest, highest, meets, row_answer_at, row_queried}
use Rattle.bridge.proofs.Covering.{design_found, high_found}

-- what is there, where nothing was refused
pub found_is : {T : Type 0} (o : Option T) (e : Fault) (x : T) → ok_or o e ≡ Ok x → o ≡ Some x
found_is (Some y) e x h = ap Some (cc)
found_is None e x h = absurd (clash h)

module _ {B R : Type 0} (force energy : B → Curve) (says : R → ℕ → ℕ → ℕ → Bool) (rows : List B) (W : ℕ) (c : CaseNumbers R) where
  -- a row that is there
  pub row_answered_is : (n dlow : ℕ) → 1 ≤ n → n ≤ length rows → design (meets force energy says rows W c (lowest c)) ≡ Some dlow →
      row_queried force energy says rows W c n ≡ Ok (at_row force rows (highest c) (n - 1) dlow)
  row_answered_is n dlow low high e =
      cond-true (ltb 0 (length rows)) _ _ (lt-ltb 0 (length rows) (omega arith))
      ∙ cond-true (between 1 (length rows) n) _ _ (and_from _ _ (le-leb 1 n low) (le-leb n (length rows) high))
      ∙ ap (row_answer_at force energy says rows W c n) e

  module _ (laws : (b : B) → Laws (force b) (energy b)) (keeps : (r : R) → RuleLaws (says r)) (few : length rows ≤ 64)
      (s_ordered : c.slo ≤ c.shi) (k_ordered : c.klo ≤ c.khi) (low : 1 ≤ demand c W) (top : demand c W ≤ 20000000000000) where
    -- what is found at the lowest factors is found at the highest
    pub high_there : (dlow : ℕ) → design (meets force energy says rows W c (lowest c)) ≡ Some dlow → IsSome (design (meets force energy says rows W c (highest c)))
    high_there dlow e =
        ap is_some (high_found laws keeps rows few W c s_ordered k_ordered low top dlow (design_found (meets force energy says rows W c (lowest c)) dlow e)).1.found
