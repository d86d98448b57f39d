-- The law of bounds: what an answered load case says of every choice of factors that the case allows. Assumes nothing.
use Rattle.std.specs.Prelude.{◌≡◌, ℕ, ◌-◌, ◌<◌, ◌≤◌, Bool, true, false, ◌⊎◌, ◌↔◌, List, length, Ok, Result}
use Rattle.bearing.specs.declared.fault.Fault.{Fault}
use Rattle.bearing.specs.declared.fault.Refusal.TheVariants.{NoRows, BeyondRange, NoSuchRow}
use Rattle.bearing.specs.Refusals.{number_of}
use Rattle.bearing.specs.Laws.{Curve}
use Rattle.loading.specs.declared.loads.CaseNumbers.{CaseNumbers}
use Rattle.bridge.specs.declared.replies.Answer.{Answer}
use Rattle.bridge.specs.Sums.{Factors, Choice, at_row, total}
use Rattle.bridge.specs.Design.{Design, Absent}
use Rattle.bridge.specs.Answers.{lowest, highest, clearance, restoring, half_of, meets}
use Rattle.bridge.specs.Outcomes.{Refused, outcome, RowAnswered, RowRefused, row_outcome}

-- factors that a case allows
pub record Inside {R : Type 0} (c : CaseNumbers R) (f : Factors) : Type 0 where
  pub s_from : c.slo ≤ f.s
  pub s_to : f.s ≤ c.shi
  pub k_from : c.klo ≤ f.k
  pub k_to : f.k ≤ c.khi

module _ {B R : Type 0} (force energy : B → Curve) (says : R → ℕ → ℕ → ℕ → Bool) (rows : List B) (W : ℕ) where
  -- the design displacement d with the factors φ, against the two displacements and the force that are reported
  pub record Between (c : CaseNumbers R) (a : Answer) (φ : Choice) (d : ℕ) : Type 0 where
    pub designs : Design (meets force energy says rows W c φ) d
    pub at_least : a.dhigh ≤ d
    pub at_most : d ≤ a.dlow
    pub force_bound : total force rows φ d ≤ a.force
    pub rows_bound : (i : ℕ) → i < length rows → at_row force rows φ i d ≤ at_row force rows (highest c) i a.dlow

  -- an answered load case
  pub record Covers (c : CaseNumbers R) (a : Answer) : Type 0 where
    pub low : Design (meets force energy says rows W c (lowest c)) a.dlow
    pub high : Design (meets force energy says rows W c (highest c)) a.dhigh
    pub reported : a.force ≡ total force rows (highest c) a.dlow
    pub clear : a.clear ≡ clearance a.dlow
    pub restores : a.restores ≡ restoring (total force rows (lowest c) a.dlow) (total force rows (lowest c) (half_of a.dlow)) W
    pub lowest_misses : (d : ℕ) → 1 ≤ d → d < a.dlow → meets force energy says rows W c (lowest c) d ≡ false
    pub lowest_meets : (d : ℕ) → a.dlow ≤ d → d ≤ 10000 → meets force energy says rows W c (lowest c) d ≡ true
    pub every : (φ : Choice) → ((i : ℕ) → i < length rows → Inside c (φ i)) → (d : ℕ) × Between c a φ d

  -- with every row at the lowest factors no displacement meets
  abbrev pub NoneMeets : CaseNumbers R → Type 0
  NoneMeets c = Absent (meets force energy says rows W c (lowest c))

  -- a query: refused for want of rows, or as beyond range exactly when nothing meets, else answered and covering
  pub record QueryLaw (c : CaseNumbers R) (r : Result Answer Fault) : Type 0 where
    pub no_rows : length rows ≡ 0 → outcome r ≡ Refused (number_of NoRows)
    pub beyond : 1 ≤ length rows → (outcome r ≡ Refused (number_of BeyondRange)) ↔ NoneMeets c
    pub otherwise : 1 ≤ length rows → (NoneMeets c → ⊥) → (a : Answer) × (r ≡ Ok a) × Covers c a

  -- a row query: the same, with a row number that is there; it answers that row's force at the highest factors at dlow
  pub record RowLaw (c : CaseNumbers R) (n : ℕ) (r : Result ℕ Fault) : Type 0 where
    pub no_rows : length rows ≡ 0 → row_outcome r ≡ RowRefused (number_of NoRows)
    pub no_row : 1 ≤ length rows → (n < 1) ⊎ (length rows < n) → row_outcome r ≡ RowRefused (number_of NoSuchRow)
    pub beyond : 1 ≤ n → n ≤ length rows → (row_outcome r ≡ RowRefused (number_of BeyondRange)) ↔ NoneMeets c
    pub otherwise : 1 ≤ n → n ≤ length rows → (NoneMeets c → ⊥) →
        (a : Answer) × (row_outcome r ≡ RowAnswered (at_row force rows (highest c) (n - 1) a.dlow)) × Covers c a
