-- What a load case comes to: 0 with its five values, or the number of its refusal. Assumes nothing.
use Rattle.std.specs.Prelude.{ℕ, Bool, Some, Ok, Err, Option, Result}
use Rattle.bearing.specs.declared.fault.Fault.{Fault}
use Rattle.bearing.specs.Refusals.{number_of}
use Rattle.bridge.specs.declared.replies.Answer.{Answer}

-- the five values; a design displacement is one that may be absent
pub record Values : Type 0 where
  -- at the lowest factors, in tenths of a millimetre
  pub dlow : Option ℕ
  -- at the highest factors, in tenths of a millimetre
  pub dhigh : Option ℕ
  -- in newtons
  pub force : ℕ
  -- in tenths of a millimetre
  pub clear : ℕ
  pub restores : Bool

-- the values of an answer: both displacements are there
abbrev pub values_of : Answer → Values
values_of a = record { dlow = Some a.dlow; dhigh = Some a.dhigh; force = a.force; clear = a.clear; restores = a.restores }

-- an answer by its values, or the fault
abbrev pub reported : Result Answer Fault → Result Values Fault
reported (Ok a) = Ok (values_of a)
reported (Err e) = Err e

pub data Outcome : Type 0 where
  Answered : Values → Outcome
  Refused : ℕ → Outcome

-- what is told of a case: layer, line and field of a fault are not
abbrev pub outcome_of : Result Values Fault → Outcome
outcome_of (Ok v) = Answered v
outcome_of (Err e) = Refused (number_of e.refusal)

-- 0, or the number of the refusal
abbrev pub outcome_number : Outcome → ℕ
outcome_number (Answered v) = 0
outcome_number (Refused n) = n

abbrev pub outcome : Result Answer Fault → Outcome
outcome r = outcome_of (reported r)

-- what a row query comes to: 0 and the row's force in newtons, or the number of its refusal
pub data RowOutcome : Type 0 where
  RowAnswered : ℕ → RowOutcome
  RowRefused : ℕ → RowOutcome

abbrev pub row_outcome : Result ℕ Fault → RowOutcome
row_outcome (Ok f) = RowAnswered f
row_outcome (Err e) = RowRefused (number_of e.refusal)
