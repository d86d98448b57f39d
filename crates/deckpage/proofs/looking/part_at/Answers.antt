use Rattle.std.proofs.Common.{ℕ, List, [], Bor, refl, ap, ◌∙◌, rules, tests, eqb, get_or}
use Rattle.std.proofs.lemmas.Iterator.Consumers.{nth_from_yields_List}
use Rattle.std.proofs.lemmas.Iterator.Splits.{YieldsList-from_slice_split}
use Rattle.sheet.specs.Parts.{parts}
use Rattle.deckpage.proofs.Parting.{part_found}
use Rattle.deckpage.proofs.looking.part_at.Goals as goal

pub returns : goal.returns
returns c =
    ap (λ (r : Bor (List ℕ)). r.now) c.unwrap_or.ensures
    ∙ part_found c.args.mark c.args.text.now c.saturating_sub.result c.nth.result _ refl
    (nth_from_yields_List c.nth.result c.nth.new.self _ c.nth.ensures.ran
    (YieldsList-from_slice_split _ (λ x. eqb x c.args.mark) c.args.text.now c.split.ensures.rest c.split.ensures.done c.split.ensures.closure (λ x r q k. search (rules, tests))))
    ∙ ap (λ (i : ℕ). get_or (parts c.args.mark c.args.text.now) i []) c.saturating_sub.ensures
