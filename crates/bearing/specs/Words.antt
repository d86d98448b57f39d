-- The words for each refusal. Assumes nothing.
use Rattle.std.specs.Prelude.{ℕ, List, codes}
use Rattle.bearing.specs.declared.fault.Refusal.{Refusal}
use Rattle.bearing.specs.declared.fault.Refusal.TheVariants.{OutOfRange, LeadTooWide, TooStrong, NoPlace, NothingHung, NoRows, BoundsReversed, BeyondRange, NoSuchRow, PageFull, TooManyLines, NamesLine, ValueLine, SheetTooLong}

-- a refusal in plain words
abbrev pub words_of : Refusal → List ℕ
words_of OutOfRange = codes "a number outside its range"
words_of LeadTooWide = codes "the lead is wider than a third of the bonded diameter"
words_of TooStrong = codes "the force at factors of 300 percent and 1000.0 mm is above 100,000,000 N"
words_of NoPlace = codes "more than 64 rows or more than 16 cases"
words_of NothingHung = codes "no row is there to take off"
words_of NoRows = codes "the bridge has no rows"
words_of BoundsReversed = codes "a lower bound is above its upper bound"
words_of BeyondRange = codes "no displacement up to 1000.0 mm meets the demand"
words_of NoSuchRow = codes "no row has this number"
words_of PageFull = codes "the page lacks space"
words_of TooManyLines = codes "the page has 99 case lines"
words_of NamesLine = codes "a names line differs, or the sheet ends where a line is due"
words_of ValueLine = codes "the line is not of its form, or has no line end"
words_of SheetTooLong = codes "the sheet has more than 16,384 bytes"
