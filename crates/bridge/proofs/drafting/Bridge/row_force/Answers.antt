use Rattle.std.proofs.Common.{◌≡◌, ℕ, ◌-◌, List, length, get_or, Ok, sym, ap, ◌∙◌, arith}
use Rattle.listing.specs.Lists.{listed}
use Rattle.bridge.proofs.Totals.{at_row_is}
use Rattle.bridge.proofs.Answering.{found_is, row_answered_is}
use Rattle.bridge.proofs.drafting.Bridge.row_force.Goals as goal

pub returns-clause-answer : goal.returns-clause-answer
returns-clause-answer g c =
    let n = c.args.case.now.numbers in
    let rows = (listed c.args.self.now.rows).items in
    let dlow = c.in_ok-dlow.dlow in
    let long = ap length c.rows-rows.ensures.items in
    let found = found_is _ _ dlow (sym c.design_low.ensures ∙ c.in_ok-dlow.was) in
    let here : c.index-rows-i.result ≡ get_or rows (c.args.n - 1) c.index-rows-i.result = c.index-rows-i.is ∙ ap (λ (xs : List g.row.B.Denot). get_or xs (c.args.n - 1) c.index-rows-i.result) c.rows-rows.ensures.items in
    let row = at_row_is g.B.Bearing.force rows (c.args.n - 1) c.index-rows-i.result n.shi n.khi dlow (omega arith) here in
    let f : c.answer-force.result.0 ≡ g.B.Bearing.force c.index-rows-i.result n.shi n.khi dlow =
    ap (λ (p : ℕ × ℕ). p.0) c.answer-force.ensures ∙ ap (λ (p : ℕ × ℕ). g.B.Bearing.force c.index-rows-i.result p.0 p.1 dlow) c.highest-s.ensures in
    ap Ok (f ∙ sym row) ∙ sym (row_answered_is g.B.Bearing.force g.B.Bearing.energy g.R.DampingRule.says rows c.args.self.now.weight.kn n c.args.n dlow (omega arith) (omega arith) found)
