-- Every worked figure, by computing. Assumes nothing.
use Rattle.std.proofs.Common.{◌≡◌, ℕ, Ok, Err, refl, ap, ◌∙◌}
use Rattle.bearing.specs.declared.fault.Fault.{Fault}
use Rattle.bearing.specs.Checks.{clash}
use Rattle.kinds.specs.declared.lead.LeadRubber.{LeadRubber}
use Rattle.kinds.specs.Leads.{strength_of, stiffness_of, yield_at, lead_made, lead_force, lead_energy}
use Rattle.damping.specs.Table.{scaled_factor}
use Rattle.loading.specs.Making.{demand_of}
use Rattle.figures.specs.Worked.{lead, Bearings, Rules, Demands, Edges, Figures}

bearings : Bearings
unfolding strength_of stiffness_of yield_at
bearings = record {
  strength = refl;
  stiffness = refl;
  yields = refl;
  elastic_force = refl;
  elastic_energy = refl;
  yield_force = refl;
  yield_energy = refl;
  far_force = refl;
  far_energy = refl;
  sliding_force = refl;
  sliding_energy = refl;
  rest_force = refl;
  rest_energy = refl;
}

rules : Rules
unfolding scaled_factor
rules = record {
  five_met = refl;
  five_missed = refl;
  ten_met = refl;
  ten_missed = refl;
  top_met = refl;
  top_missed = refl;
  undamped_met = refl;
  undamped_missed = refl;
  damped_met = refl;
  damped_missed = refl;
}

demands : Demands
unfolding demand_of
demands = record { worked = refl; least = refl }

edges : Edges
unfolding strength_of stiffness_of yield_at
edges = record { lead_made_yet = refl; lead_too_wide = refl; pendulum_too_strong = refl; pendulum_made_yet = refl }

pub figures : Figures
figures = record { bearings = bearings; rules = rules; demands = demands; edges = edges }

-- the worked bearing is made
made_is : lead_made 100 114 500 62 150 ≡ Ok lead
unfolding strength_of stiffness_of yield_at
made_is = refl

pub answers : (b : LeadRubber) (r : ℕ × ℕ) → Ok b ≡ lead_made 100 114 500 62 150 → r ≡ (lead_force b 100 100 1000, lead_energy b 100 100 1000) → r ≡ (166281, 72119995)
answers b r made is =
    let q : Ok b ≡ Ok lead = made ∙ made_is in
    let e : b ≡ lead = cc in
    let pair : LeadRubber → ℕ × ℕ = λ x. (lead_force x 100 100 1000, lead_energy x 100 100 1000) in
    let worked : pair lead ≡ (166281, 72119995) = λ i. (bearings.far_force i, bearings.far_energy i) in
    is ∙ ap pair e ∙ worked

-- and not refused
pub not_refused : (e : Fault) → Err e ≡ lead_made 100 114 500 62 150 → ⊥
not_refused e refused = clash (refused ∙ made_is)
