use Rattle.std.proofs.Common.{sym, ◌∙◌, ap₂, arith}
use Rattle.listing.specs.Lists.{Listed, listed}
use Rattle.sheet.specs.Parts.{parts}
use Rattle.sheet.specs.RowLines.{Row}
use Rattle.sheet.specs.CaseLines.{Numbers}
use Rattle.sheet.specs.Reading.{begun_with, read_parts}
use Rattle.sheet.proofs.Whole.{read_back}
use Rattle.sheet.proofs.Accepted.{text_law}
use Rattle.sheet.proofs.reading.read.Goals as goal

pub returns-then-sheet-gt16384-clause-text : goal.returns-then-sheet-gt16384-clause-text
returns-then-sheet-gt16384-clause-text c = text_law (listed c.args.rows.now).capacity (listed c.args.cases.now).capacity c.args.sheet.now (omega arith) (omega arith)

pub returns-then-is_err-clause-text : goal.returns-then-is_err-clause-text
returns-then-is_err-clause-text c = text_law (listed c.args.rows.now).capacity (listed c.args.cases.now).capacity c.args.sheet.now (omega arith) (omega arith)

pub returns-else-is_err-clause-made : goal.returns-else-is_err-clause-made
returns-else-is_err-clause-made c =
    (read_back (listed c.args.rows.now).capacity (listed c.args.cases.now).capacity c.args.sheet.now (listed c.read_lines-weight.new.rows).items (listed c.read_lines-weight.new.cases).items c.read_lines-weight.result
    c.if-sheet-gt16384.false (sym c.if-is_err.ensures.value)
    (c.read_lines-weight.ensures.content
    ∙ ap₂ (λ (a : Listed Row) (b : Listed Numbers). read_parts a.capacity b.capacity 1 (begun_with a.items b.items) (parts 10 c.args.sheet.now)) c.clear.ensures.list c.clear-2.ensures.list)).made

pub returns-else-is_err-clause-text : goal.returns-else-is_err-clause-text
returns-else-is_err-clause-text c = text_law (listed c.args.rows.now).capacity (listed c.args.cases.now).capacity c.args.sheet.now (omega arith) (omega arith)
