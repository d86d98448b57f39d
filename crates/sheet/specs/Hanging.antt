-- A sheet as a draft: the deck's weight, and the rows that hang after the sheet's rows are hung one after another.
-- Assumes nothing.
use Rattle.std.specs.Prelude.{ℕ, List, [], ◌∷◌, Ok, Err, Result}
use Rattle.bearing.specs.declared.fault.Fault.{Fault}
use Rattle.listing.specs.Lists.{pushed}
use Rattle.sheet.specs.Reading.{Content}

-- rows hung in their order on a draft with so many places, where the rows xs hang already: each goes to the end
-- while a place is free, and is left out where none is
abbrev pub hung : {T : Type 0} → ℕ → List T → List T → List T
hung places xs [] = xs
hung places xs (r ∷ rs) = hung places (pushed places xs r) rs

-- the weight of the draft, in kilonewtons: the sheet's, and the least weight where the sheet is refused
abbrev pub weight_read : Result Content Fault → ℕ
weight_read (Ok c) = c.weight
weight_read (Err e) = 1
