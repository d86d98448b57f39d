use Rattle.std.proofs.Common.{take, sym, arith}
use Rattle.listing.specs.Lists.{listed}
use Rattle.bridge.specs.Replay.{response_values, asked, Law, Each}
use Rattle.bridge.proofs.Entering.{put_next, one_taken, each_append, map_append, subst₂}
use Rattle.bridge.proofs.running.put_all.Goals as goal

pub loop-i-preserved : goal.loop-i-preserved
loop-i-preserved g c =
    let f = asked g.B.Bearing.force g.B.Bearing.energy g.R.DampingRule.says (listed c.args.bridge.now.rows).items c.args.bridge.now.weight.kn in
    let L = Law g.B.Bearing.force g.B.Bearing.energy g.R.DampingRule.says (listed c.args.bridge.now.rows).items c.args.bridge.now.weight.kn in
    let rs = take c.loop-i.i c.loop-i.responses in
    let qs = take c.loop-i.i c.args.questions.now in
    let q = c.index-questions-i.result in
    let r = c.put.result in
    let nr = put_next c.loop-i.responses c.loop-i.i r (omega arith) in
    let nq = one_taken c.args.questions.now c.loop-i.i q c.loop-i-test.true c.index-questions-i.is in
    let mr = map_append response_values rs r in
    let mq = map_append f qs q in
    let so_far = c.loop-i.invariant.0 in
    let here = c.put.ensures.values in (
      cc,
      subst₂ (Each L) (sym nq) (sym nr) (each_append L qs rs q r c.loop-i.invariant.1 c.put.ensures.law),
    )
