-- What the program answers. Assumes nothing.
use Rattle.std.specs.Prelude.{ℕ, List, replicate, take, Option}
use Rattle.std.specs.Option.{option_map}
use Rattle.deck.specs.Whole.{Done, job}

-- the whole job on a page of 1,024 bytes, more than any page of 16 cases takes
abbrev pub job_of : List ℕ → Done
job_of sheet = job sheet (replicate 1024 0)

-- the sheet that is read of an input, where its bytes are known: one byte more than a sheet may have, so that a longer
-- one is seen
abbrev pub sheet_of : Option (List ℕ) → Option (List ℕ)
sheet_of bytes = option_map (take 16385) bytes
