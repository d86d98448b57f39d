use Rattle.std.proofs.Common.{◌≡◌, ℕ, min, length, replicate, sym, refl, ap, ◌∙◌, ap₂}
use Rattle.loading.specs.declared.weighing.Weight.{Weight}
use Rattle.listing.specs.Lists.{Listed, listed}
use Rattle.listing.specs.declared.places.Listing.{Listing}
use Rattle.sheet.specs.RowLines.{Row}
use Rattle.sheet.specs.CaseLines.{Numbers}
use Rattle.deck.specs.Whole.{Done, page_done, outcomes, job}
use Rattle.deck.proofs.Contents.{accepted, refused}
use Rattle.deck.proofs.Bounding.{page_law}
use Rattle.deck.proofs.job.answer_sheet.Goals as goal

pub returns-in-Ok : goal.returns-in-Ok
returns-in-Ok c =
    let places : min 64 (length (replicate 64 c.spare_row-row_places.result)) ≡ 64 = refl in
    let cap : (listed c.new-cases.result).capacity ≡ 16 = ap (λ (l : Listed Numbers). l.capacity) c.new-cases.ensures.list in
    let d = accepted c.args.sheet.now c.args.page.now (min 64 (length (replicate 64 c.spare_row-row_places.result))) (listed c.new-cases.result).capacity c.in-Ok.field-0
    c.close.result.weight.kn (listed c.close.result.rows).items c.as_slice.result.now places cap
    (sym c.in-Ok.is ∙ c.read_draft-draft.ensures.result)
    (ap (λ (w : Weight). w.kn) c.close.ensures.weight ∙ c.read_draft-draft.ensures.weight)
    (ap (λ (l : Listing Row 64). (listed l).items) c.close.ensures.rows ∙ c.read_draft-draft.ensures.rows)
    (c.as_slice.ensures.items ∙ ap (λ (l : Listed Numbers). l.items) c.read_draft-draft.ensures.cases) in
    record {
      bytes = c.write_page.ensures.bytes ∙ ap (λ (x : Done). x.bytes) d;
      written = c.write_page.ensures.written ∙ ap (λ (x : Done). x.written) d;
      result = c.write_page.ensures.result ∙ ap (λ (x : Done). x.result) d;
      law = page_law c.args.sheet.now;
    }

pub returns-in-Err : goal.returns-in-Err
returns-in-Err c =
    let places : min 64 (length (replicate 64 c.spare_row-row_places.result)) ≡ 64 = refl in
    let cap : (listed c.new-cases.result).capacity ≡ 16 = ap (λ (l : Listed Numbers). l.capacity) c.new-cases.ensures.list in
    let d = refused c.args.sheet.now c.args.page.now (min 64 (length (replicate 64 c.spare_row-row_places.result))) (listed c.new-cases.result).capacity c.in-Err.fault places cap
    (sym c.in-Err.is ∙ c.read_draft-draft.ensures.result) in
    record {
      bytes = c.refuse.ensures.bytes ∙ ap (λ (x : Done). x.bytes) d;
      written = c.refuse.ensures.written ∙ ap (λ (x : Done). x.written) d;
      result = c.refuse.ensures.result ∙ ap (λ (x : Done). x.result) d;
      law = page_law c.args.sheet.now;
    }
