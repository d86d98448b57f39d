use Rattle.std.proofs.Common.{◌≡◌, ℕ, ◌≤◌, min, List, [], length, ap, ◌∙◌, ap₂, arith, length-take, rules}
use lib.ListN.{length-replicate}
use Rattle.loading.specs.declared.weighing.Weight.{Weight}
use Rattle.listing.specs.Lists.{Listed, listed}
use Rattle.sheet.specs.RowLines.{Row}
use Rattle.sheet.specs.CaseLines.{Numbers}
use Rattle.sheet.specs.Hanging.{hung}
use Rattle.sheet.proofs.Drafting.{drafted, undrafted}
use Rattle.sheet.proofs.drafts.read_draft.Goals as goal

pub returns-in-Ok : goal.returns-in-Ok
returns-in-Ok c =
    let P = min 64 (length c.args.places.now) in
    let cap : (listed c.new-rows.result).capacity ≡ P = ap (λ (l : Listed Row). l.capacity) c.new-rows.ensures.list ∙ simp (length-take, length-replicate) (omega (arith, c.min-most.ensures)) in
    let held = ap (λ (l : Listed Row). l.capacity) c.in-Ok.ensures.rows ∙ cap in
    let read = ap (λ (l : Listed Row). l.items) c.in-Ok.ensures.rows in
    let got = ap (λ (l : Listed Numbers). l.items) c.in-Ok.ensures.cases in
    let few : length (listed c.read.new.rows).items ≤ P = omega (arith, ap length c.as_slice.ensures.items, c.as_slice.ensures.placed, held) in
    let on : (listed c.hang_rows.new.draft.rows).items ≡ hung P [] (listed c.read.new.rows).items =
    ap (λ (l : Listed Row). l.items) c.hang_rows.ensures.rows
    ∙ ap₂ (λ (l : Listed Row) (xs : List Row). hung l.capacity l.items xs) c.begin-draft.ensures.rows c.as_slice.ensures.items in
    let d = drafted (listed c.new-rows.result).capacity P (listed c.args.cases.now).capacity c.args.sheet.now c.in-Ok.weight.kn c.hang_rows.new.draft.weight.kn c.len.result
    (listed c.read.new.rows).items (listed c.hang_rows.new.draft.rows).items (listed c.read.new.cases).items cap few
    c.in-Ok.ensures.weight read got
    (ap (λ (w : Weight). w.kn) (c.hang_rows.ensures.weight ∙ c.begin-draft.ensures.weight)) on c.len.ensures.value in
    search rules

pub returns-in-Err : goal.returns-in-Err
returns-in-Err c =
    let P = min 64 (length c.args.places.now) in
    let cap : (listed c.new-rows.result).capacity ≡ P = ap (λ (l : Listed Row). l.capacity) c.new-rows.ensures.list ∙ simp (length-take, length-replicate) (omega (arith, c.min-most.ensures)) in
    let got = ap (λ (l : Listed Numbers). l.items) c.in-Err.ensures.cases in
    let none = ap (λ (l : Listed Row). l.items) c.begin.ensures.rows in
    let d = undrafted (listed c.new-rows.result).capacity P (listed c.args.cases.now).capacity c.args.sheet.now c.in-Err.fault c.begin.result.weight.kn
    (listed c.begin.result.rows).items (listed c.read.new.cases).items cap
    c.in-Err.ensures.weight got
    (ap (λ (w : Weight). w.kn) c.begin.ensures.weight ∙ c.least_weight.ensures) none in
    search rules
