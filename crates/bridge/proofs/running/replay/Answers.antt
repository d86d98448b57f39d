use Rattle.std.proofs.Common.{List, sym, ap, ◌∙◌, subst, min, length}
use Rattle.loading.specs.declared.weighing.Weight.{Weight}
use Rattle.listing.specs.Lists.{Listed, listed, with_items}
use Rattle.listing.specs.declared.places.Listing.{Listing}
use Rattle.bridge.specs.declared.calls.Question.{Question}
use Rattle.bridge.specs.Calls.{hung_rows, call_replies}
use Rattle.bridge.specs.Replay.{Run, questions_of}
use Rattle.bridge.proofs.Entering.{run_made}
use Rattle.bridge.proofs.running.replay.Goals as goal

pub returns-in-Some-clause-run : goal.returns-in-Some-clause-run
returns-in-Some-clause-run g c =
    let places = min 64 (length c.args.places.now) in
    let calls = c.args.calls.now in
    let b = c.begin-draft.ensures in
    let d = c.enter_all.ensures in
    let k = c.close.ensures in
    λ _. subst (λ (qs : List (Question g.row.R.Denot)). Run g.B.Bearing.force g.B.Bearing.energy g.R.DampingRule.says places c.args.weight.kn calls qs c.enter_all.new.replies c.put_all.new.responses)
    (sym (ap questions_of c.in-Some.is))
    (run_made g.B.Bearing.force g.B.Bearing.energy g.R.DampingRule.says places calls c.args.weight.kn c.close.result.weight.kn (listed c.close.result.rows).items c.in-Some.all.now c.enter_all.new.replies c.put_all.new.responses
    (ap (λ (l : Listed g.row.B.Denot). l.items) (ap (λ (l : Listing g.row.B.Denot 64). listed l) k.rows ∙ d.rows ∙ ap (λ (l : Listed g.row.B.Denot). with_items l (hung_rows l.capacity l.items calls)) b.rows))
    (ap (λ (w : Weight). w.kn) (k.weight ∙ d.weight ∙ b.weight))
    (d.answers ∙ ap (λ (l : Listed g.row.B.Denot). call_replies l.capacity l.items calls) b.rows)
    c.put_all.ensures.values c.put_all.ensures.law)
