-- What the program says of a sheet on standard error. Assumes nothing.
use Rattle.std.specs.Prelude.{ℕ, ◌-◌, List, ◌++◌, codes, decimal}
use Rattle.bearing.specs.declared.fault.Fault.{Fault}
use Rattle.bearing.specs.Refusals.{number_of, layer_number}
use Rattle.bearing.specs.Words.{words_of}
use Rattle.deck.specs.declared.job.Summary.{Summary}
use Rattle.deckpage.specs.declared.looking.Found.{Found}
use Rattle.deckpage.specs.declared.looking.Spot.{Spot}
use Rattle.deckpage.specs.declared.looking.Spot.TheVariants.{Whole, Line, Number}
use Rattle.deckpage.specs.Fields.{name_of, allowed_of}
use Rattle.deckpage.specs.Words.{plural_ending}

-- so many things: the number, the word, and the ending of its plural
abbrev pub counted_text : ℕ → List ℕ → List ℕ → List ℕ
counted_text n word more = decimal n ++ (word ++ (plural_ending n ++ more))

-- of an accepted sheet
abbrev pub answered_text : Summary → List ℕ
answered_text s =
    counted_text s.rows (codes " row") (codes ", " ++
    counted_text s.cases (codes " case") (codes ": " ++
    (decimal s.answered ++ (codes " answered, " ++ (decimal (s.cases - s.answered) ++ codes " beyond range")))))

-- the number and the layer of a refusal, in brackets
abbrev pub numbered_text : Fault → List ℕ
numbered_text e = codes " (refusal " ++ (decimal (number_of e.refusal) ++ (codes ", layer " ++ (decimal (layer_number e.layer) ++ codes ")")))

-- why, in words
abbrev pub why_text : Fault → List ℕ
why_text e = codes ": " ++ (words_of e.refusal ++ numbered_text e)

-- the name of a field, the number that stands there, and what it is not
abbrev pub found_text : Found → List ℕ
found_text e = codes "(" ++ (name_of e.field ++ (codes "): " ++ (decimal e.number ++ (codes " " ++ allowed_of e.field))))

-- where and why: a number that is refused is told, with what is allowed there
abbrev pub spot_text : Spot → Fault → List ℕ
spot_text Whole e = why_text e
spot_text (Line line) e = codes " at line " ++ (decimal line ++ why_text e)
spot_text (Number line field found) e =
    codes " at line " ++ (decimal line ++ (codes ", field " ++ (decimal field ++ (codes " " ++ (found_text found ++ numbered_text e)))))

-- of a refused sheet
abbrev pub refused_text : Spot → Fault → List ℕ
refused_text s e = codes "sheet refused" ++ spot_text s e
