use Rattle.std.proofs.Common.{ℕ, ◌==◌, length, sym, ap, ◌∙◌, arith, rules, tests, unwrap_or}
use Rattle.std.proofs.lemmas.Iterator.{YieldsList-from_slice}
use Rattle.std.proofs.lemmas.Iterator.Search.{position_from_yields_List}
use Rattle.sheet.proofs.Cuts.{before_le, before_is, found_or_all}
use Rattle.sheet.proofs.parts.cut.Goals as goal

pub returns : goal.returns
returns c =
    let text = c.args.text.now in
    let mark = c.args.mark in
    let found = position_from_yields_List (λ (x : ℕ). x == mark) _ _ c.position.result c.position.ensures.ran (YieldsList-from_slice text c.iter.ensures.rest) (λ x b q k. search (rules, tests)) in
    let is = before_is mark text in
    let le = before_le mark text in
    let at = c.unwrap_or.ensures ∙ ap (λ o. unwrap_or o (length text)) found ∙ found_or_all _ (length text) (rw (← is) le) ∙ sym is in
    (at, omega (arith, at, le))
