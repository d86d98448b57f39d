-- The law of bounds over whole runs: a draft is begun, rows are hung and taken off, it is closed, and questions are asked. Assumes nothing.
use Rattle.std.specs.Prelude.{◌≡◌, ℕ, Bool, List, [], ◌∷◌, map, Some, None, Option, Result}
use Rattle.std.specs.Borrow.{Bor}
use Rattle.bearing.specs.declared.fault.Fault.{Fault}
use Rattle.bearing.specs.Laws.{Curve}
use Rattle.bridge.specs.declared.calls.DraftCall.{DraftCall}
use Rattle.bridge.specs.declared.calls.Question.{Question}
use Rattle.bridge.specs.declared.calls.Question.TheVariants.{Query, RowQuery}
use Rattle.bridge.specs.declared.calls.Response.{Response}
use Rattle.bridge.specs.declared.calls.Response.TheVariants.{Query as QueryResponse, RowQuery as RowResponse}
use Rattle.bridge.specs.Outcomes.{Values, reported}
use Rattle.bridge.specs.Answers.{queried, row_queried}
use Rattle.bridge.specs.Bounds.{QueryLaw, RowLaw}
use Rattle.bridge.specs.Calls.{hung_rows, call_replies}

-- a response by its values
pub data Reported : Type 0 where
  OfQuery : Result Values Fault → Reported
  OfRowQuery : Result ℕ Fault → Reported

abbrev pub response_values : Response → Reported
response_values (QueryResponse r) = OfQuery (reported r)
response_values (RowResponse r) = OfRowQuery r

module _ {B R : Type 0} (force energy : B → Curve) (says : R → ℕ → ℕ → ℕ → Bool) (rows : List B) (W : ℕ) where
  -- what a question is answered, by definition
  abbrev pub asked : Question R → Reported
  asked (Query c) = OfQuery (queried force energy says rows W c.numbers)
  asked (RowQuery c n) = OfRowQuery (row_queried force energy says rows W c.numbers n)

  -- the law of one question and its response
  abbrev pub Law : Question R → Response → Type 0
  Law (Query c) (QueryResponse r) = QueryLaw force energy says rows W c.numbers r
  Law (Query c) (RowResponse r) = ⊥
  Law (RowQuery c n) (QueryResponse r) = ⊥
  Law (RowQuery c n) (RowResponse r) = RowLaw force energy says rows W c.numbers n r

-- a law of every question and its response, in their order
abbrev pub Each : {Q A : Type 0} → (Q → A → Type 0) → List Q → List A → Type 0
Each L [] [] = Unit {0}
Each L [] (a ∷ rest) = ⊥
Each L (q ∷ qs) [] = ⊥
Each L (q ∷ qs) (a ∷ rest) = L q a × Each L qs rest

-- A run: a draft begun with a weight W in kilonewtons and some places, the calls on it and their replies, its closing,
-- the questions and their responses. The rows are those that the calls hung, the weight is the one given.
pub record Run {B R : Type 0} (force energy : B → Curve) (says : R → ℕ → ℕ → ℕ → Bool) (places W : ℕ)
    (calls : List (DraftCall B)) (questions : List (Question R)) (replies : List (Result (Unit {0}) Fault)) (responses : List Response) : Type 0 where
  -- each call is answered as defined
  pub draft : replies ≡ call_replies places [] calls
  -- each question is answered as defined
  pub bridge : map response_values responses ≡ map (asked force energy says (hung_rows places [] calls) W) questions
  -- and each response keeps the law of bounds
  pub law : Each (Law force energy says (hung_rows places [] calls) W) questions responses

-- the questions that are asked: none where the run stops before closing
abbrev pub questions_of : {R : Type 0} → Option (Bor (List (Question R))) → List (Question R)
questions_of None = []
questions_of (Some qs) = qs.now
