-- What a page on a given buffer takes and holds: how a call answers and every byte after it. Assumes nothing.
-- A page needs 51 bytes: 44 for its names line, and 7 that stay free for its last line, at most `end,99`.
use Rattle.std.specs.Prelude.{ℕ, ◌+◌, ◌-◌, Bool, cond, ◌||◌, List, length, Ok, Err, Result, nat_le, nat_lt}
use Rattle.bearing.specs.declared.fault.Fault.{Fault}
use Rattle.bearing.specs.declared.fault.Refusal.TheVariants.{PageFull, TooManyLines}
use Rattle.bearing.specs.declared.fault.Layer.TheVariants.{Sheet}
use Rattle.bearing.specs.Refusals.{plain_fault}
use Rattle.page.specs.Text.{written, names_line, refusal_page}

-- whether a buffer of so many bytes is too small for a page
abbrev pub too_small : ℕ → Bool
too_small size = nat_lt size 51

-- how many bytes of a buffer the names line and the case lines may take: all but 7, and none of one too small
abbrev pub line_space : ℕ → ℕ
line_space size = cond (too_small size) 0 (size - 7)

-- the bytes of a page just begun, and how many of them are written
abbrev pub begun : List ℕ → List ℕ
begun old = cond (too_small (length old)) old (written old 0 names_line)

abbrev pub begun_len : ℕ → ℕ
begun_len size = cond (too_small size) 0 44

-- whether a line of n bytes, written from the place at, leaves fewer than 7 bytes of a buffer, or the buffer is too small for a page
abbrev pub lacks_space : ℕ → ℕ → ℕ → Bool
lacks_space size at n = too_small size || nat_lt size (at + n + 7)

-- how a page answers a further line, with at bytes of its buffer and count case lines written
unfoldable pub line_answer : ℕ → ℕ → ℕ → List ℕ → Result (Unit {0}) Fault
line_answer size at count text =
    cond (nat_le 99 count) (Err (plain_fault TooManyLines Sheet))
    (cond (lacks_space size at (length text)) (Err (plain_fault PageFull Sheet)) (Ok tt))

-- the bytes after a line with this answer
abbrev pub lined : Result (Unit {0}) Fault → List ℕ → ℕ → List ℕ → List ℕ
lined (Ok u) old at text = written old at text
lined (Err e) old at text = old

-- how many bytes are written after a line with this answer
abbrev pub lined_len : Result (Unit {0}) Fault → ℕ → List ℕ → ℕ
lined_len (Ok u) at text = at + length text
lined_len (Err e) at text = at

-- how many case lines a page has after a line with this answer
abbrev pub lined_count : Result (Unit {0}) Fault → ℕ → ℕ
lined_count (Ok u) count = count + 1
lined_count (Err e) count = count

-- the bytes of a page once its last line is written, and how many are written in all
abbrev pub closed : List ℕ → ℕ → List ℕ → List ℕ
closed old at text = cond (too_small (length old)) old (written old at text)

abbrev pub closed_len : ℕ → ℕ → List ℕ → ℕ
closed_len size at text = cond (too_small size) 0 (at + length text)

-- how the writing of a refusal page into so many bytes is answered: its length, or that it does not fit
abbrev pub refusal_answer : ℕ → Fault → Result ℕ Fault
refusal_answer size e = cond (nat_lt size (length (refusal_page e))) (Err (plain_fault PageFull Sheet)) (Ok (length (refusal_page e)))

-- the bytes then
abbrev pub refusal_written : List ℕ → Fault → List ℕ
refusal_written old e = cond (nat_lt (length old) (length (refusal_page e))) old (written old 0 (refusal_page e))
