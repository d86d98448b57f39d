use Rattle.loading.proofs.Demands.{demand_low, demand_top}
use Rattle.listing.specs.Lists.{listed}
use Rattle.bridge.proofs.Covering.{row_law}
use Rattle.bridge.proofs.drafting.Bridge.row_query.Goals as goal

pub returns-clause-law : goal.returns-clause-law
returns-clause-law g c =
    let case = c.args.case.now in
    let weight = c.args.self.now.weight in
    row_law g.met.B.Bearing.laws g.met.R.DampingRule.laws (listed c.args.self.now.rows).items c.row_force.ensures.few weight.kn case.numbers
    case.sordered case.kordered (demand_low case.numbers weight.kn case.accelfrom weight.low) (demand_top case.numbers weight.kn case.accelto weight.high)
    c.args.n c.row_force.result c.row_force.ensures.answer
