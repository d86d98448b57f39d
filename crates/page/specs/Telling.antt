-- What the text of an ended page tells: every outcome on it. Assumes nothing.
use Rattle.std.specs.Prelude.{◌≡◌, ℕ, ◌^◌, ◌<◌, List, length, take, Some, None, Option}
use Rattle.std.specs.List.{AllByRecursion}
use Rattle.bridge.specs.Outcomes.{Values, Outcome, Answered, Refused}
use Rattle.page.specs.Runs.{page_run, Fits}

-- a displacement is below 2 ^ 64, or absent
abbrev pub SizedDisplacement : Option ℕ → Type 0
SizedDisplacement (Some d) = d < 2 ^ 64
SizedDisplacement None = Unit {0}

-- every number of the five values is below 2 ^ 64
pub record SizedValues (v : Values) : Type 0 where
  pub dlow : SizedDisplacement v.dlow
  pub dhigh : SizedDisplacement v.dhigh
  pub force : v.force < 2 ^ 64
  pub clear : v.clear < 2 ^ 64

-- every number of an outcome is below 2 ^ 64, as the types of an answer and of a refusal have it
abbrev pub Sized : Outcome → Type 0
Sized (Answered v) = SizedValues v
Sized (Refused n) = n < 2 ^ 64

-- every number of each of these outcomes is below 2 ^ 64
abbrev pub AllSized : List Outcome → Type 0
AllSized os = AllByRecursion Sized os

-- the text that is written of a page of some outcomes, begun on the bytes old
abbrev pub written_page : List ℕ → List Outcome → List ℕ
written_page old os = take (page_run old os).1 (page_run old os).0

-- two lists of outcomes whose lines were all taken, each on a buffer of 51 bytes or more, and whose ended pages have the same text, are the same
abbrev pub PageTells : Type 0
PageTells =
    (old old' : List ℕ) (os os' : List Outcome) → Fits (length old) os → Fits (length old') os' → AllSized os → AllSized os'
    → written_page old os ≡ written_page old' os' → os ≡ os'
