use Rattle.std.proofs.Common.{◌≡◌, map, take}
use Rattle.listing.specs.Lists.{listed}
use Rattle.bridge.specs.Replay.{response_values, asked, Law, Each}
use Rattle.bridge.proofs.running.put_all.Given as goal

abbrev pub invariant-loop-i : goal.invariant-loop-i
invariant-loop-i g l =
    (map response_values (take l.i l.responses) ≡ map (asked g.B.Bearing.force g.B.Bearing.energy g.R.DampingRule.says (listed l.bridge.rows).items l.bridge.weight.kn) (take l.i l.questions)) ×
    Each (Law g.B.Bearing.force g.B.Bearing.energy g.R.DampingRule.says (listed l.bridge.rows).items l.bridge.weight.kn) (take l.i l.questions) (take l.i l.responses)
