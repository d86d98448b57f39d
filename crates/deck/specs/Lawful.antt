-- The law of bounds on the page of a sheet. Assumes nothing.
use Rattle.std.specs.Prelude.{◌≡◌, ℕ, List, Ok, Result}
use Rattle.bearing.specs.declared.fault.Fault.{Fault}
use Rattle.bridge.specs.declared.replies.Answer.{Answer}
use Rattle.bridge.specs.Outcomes.{Outcome, outcome}
use Rattle.bridge.specs.Bounds.{QueryLaw}
use Rattle.bridge.specs.Replay.{Each}
use Rattle.sheet.specs.RowLines.{Row}
use Rattle.sheet.specs.CaseLines.{Numbers}
use Rattle.sheet.specs.Reading.{Content, read_sheet}
use Rattle.deck.specs.Whole.{row_force, row_energy, rule_says, outcomes}

-- the outcome that a case line shows is that of an answer or a refusal that keeps the law of bounds
pub record LineLaw (rows : List Row) (W : ℕ) (n : Numbers) (shown : Outcome) : Type 0 where
  pub reply : Result Answer Fault
  pub is_shown : outcome reply ≡ shown
  pub law : QueryLaw row_force row_energy rule_says rows W n reply

-- of an accepted sheet every case line keeps the law
abbrev pub PageLaw : List ℕ → Type 0
PageLaw sheet = (c : Content) → read_sheet 64 16 sheet ≡ Ok c → Each (LineLaw c.rows c.weight) c.cases (outcomes c.rows c.weight c.cases)
