use Rattle.std.proofs.Common.{[], ◌∷◌, ◌++◌, sym, ap, ◌∙◌, ap₂, arith}
use Rattle.listing.specs.Lists.{Listed, listed, with_items}
use Rattle.bridge.specs.Calls.{called, call_reply}
use Rattle.bridge.proofs.Entering.{hung_next, replies_next, put_next}
use Rattle.bridge.proofs.running.enter_all.Goals as goal

pub loop-i-preserved : goal.loop-i-preserved
loop-i-preserved g c =
    let e = c.enter.ensures in
    let i = c.loop-i.invariant in
    let start = listed c.args.draft.now.rows in
    let call = c.index-calls-i.result in (
      e.rows
          ∙ ap (λ (l : Listed g.row.B.Denot). with_items l (called l.capacity l.items call)) i.0
          ∙ ap (with_items start) (sym (hung_next start.capacity start.items c.args.calls.now c.loop-i.i call c.loop-i-test.true c.index-calls-i.is)),
      e.weight ∙ i.1,
      put_next c.loop-i.replies c.loop-i.i c.enter.result (omega arith)
          ∙ ap₂ (λ a x. a ++ (x ∷ [])) i.2 (e.answer ∙ ap (λ (l : Listed g.row.B.Denot). call_reply l.capacity l.items call) i.0)
          ∙ sym (replies_next start.capacity start.items c.args.calls.now c.loop-i.i call c.loop-i-test.true c.index-calls-i.is),
    )
