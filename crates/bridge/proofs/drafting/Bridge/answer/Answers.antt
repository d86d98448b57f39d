use Rattle.std.proofs.Common.{ℕ, length, is_some, sym, ap, ◌∙◌, arith}
use Rattle.listing.specs.Lists.{listed}
use Rattle.loading.proofs.Demands.{demand_low, demand_top}
use Rattle.bridge.specs.Sums.{all_at}
use Rattle.bridge.specs.Design.{design}
use Rattle.bridge.specs.Answers.{meets}
use Rattle.bridge.proofs.Answering.{found_is, high_there}
use Rattle.bridge.proofs.drafting.Bridge.answer.Goals as goal

pub unwrap-dhigh-requires : goal.unwrap-dhigh-requires
unwrap-dhigh-requires g c =
    let case = c.args.case.now in
    let weight = c.args.self.now.weight in
    let rows = (listed c.args.self.now.rows).items in
    ap is_some (c.design_at.ensures ∙ ap (λ (p : ℕ × ℕ). design (meets g.B.Bearing.force g.B.Bearing.energy g.R.DampingRule.says rows weight.kn case.numbers (all_at p.0 p.1))) c.highest.ensures)
    ∙ high_there g.B.Bearing.force g.B.Bearing.energy g.R.DampingRule.says rows weight.kn case.numbers g.met.B.Bearing.laws g.met.R.DampingRule.laws
    (omega (arith, ap length c.rows.ensures.items)) case.sordered case.kordered
    (demand_low case.numbers weight.kn case.accelfrom weight.low) (demand_top case.numbers weight.kn case.accelto weight.high)
    c.in_ok-dlow.dlow (found_is _ _ c.in_ok-dlow.dlow (sym c.design_low.ensures ∙ c.in_ok-dlow.was))
