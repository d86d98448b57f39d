-- Worked figures: what the definitions give on twelve examples, and at the edges of what is made. Assumes nothing.
use Rattle.std.specs.Prelude.{◌≡◌, true, false, Ok, Err}
use Rattle.bearing.specs.declared.fault.Refusal.TheVariants.{LeadTooWide, TooStrong}
use Rattle.bearing.specs.declared.fault.Layer.TheVariants.{Bearing}
use Rattle.bearing.specs.Refusals.{plain_fault}
use Rattle.kinds.specs.declared.lead.LeadRubber.{LeadRubber}
use Rattle.kinds.specs.declared.sliding.Pendulum.{Pendulum}
use Rattle.kinds.specs.Leads.{lead_of, lead_made, strength_of, stiffness_of, yield_of, lead_force, lead_energy}
use Rattle.kinds.specs.Pendulums.{pendulum_of, pendulum_made, pendulum_force, pendulum_energy}
use Rattle.damping.specs.Table.{table_says}
use Rattle.damping.specs.Eurocode.{eurocode_says}
use Rattle.loading.specs.declared.loads.Site.TheVariants.{I, II}
use Rattle.loading.specs.Sites.{site_tenths}
use Rattle.loading.specs.Making.{demand_of}

-- lead of 100 mm that yields at 11.4 MPa, bonded diameter 500 mm, shear modulus 0.62 MPa, 150 mm of rubber
abbrev pub lead : LeadRubber
lead = lead_of 100 114 500 62 150

-- 1000 kN, friction 0.060, radius 1000 mm
abbrev pub pendulum : Pendulum
pendulum = pendulum_of 1000 60 1000

-- forces in newtons, stiffness in N/mm, displacements in tenths of a millimetre, factors in percent
pub record Bearings : Type 0 where
  -- 1: characteristic strength, post-yield stiffness, yield displacement
  pub strength : strength_of lead ≡ 80581
  pub stiffness : stiffness_of lead ≡ 857
  pub yields : yield_of lead ≡ 105
  -- 2: at 5.0 mm, before yielding
  pub elastic_force : lead_force lead 100 100 50 ≡ 42656
  pub elastic_energy : lead_energy lead 100 100 50 ≡ 0
  -- 3: at 10.5 mm, at yielding
  pub yield_force : lead_force lead 100 100 105 ≡ 89579
  pub yield_energy : lead_energy lead 100 100 105 ≡ 0
  -- 4: at 100.0 mm
  pub far_force : lead_force lead 100 100 1000 ≡ 166281
  pub far_energy : lead_energy lead 100 100 1000 ≡ 72119995
  -- 5: a pendulum at 100.0 mm
  pub sliding_force : pendulum_force pendulum 100 100 1000 ≡ 160000
  pub sliding_energy : pendulum_energy pendulum 100 100 1000 ≡ 60000000
  -- 6: at rest
  pub rest_force : pendulum_force pendulum 120 100 0 ≡ 0
  pub rest_energy : pendulum_energy pendulum 120 100 0 ≡ 0

-- at P = 4520 the greatest demand R that is met, and the next one
pub record Rules : Type 0 where
  -- 7, 8, 9: the table at b = 5, 10 and more than 50 percent
  pub five_met : table_says 355 4520 4520 ≡ true
  pub five_missed : table_says 355 4520 4521 ≡ false
  pub ten_met : table_says 710 4520 6508 ≡ true
  pub ten_missed : table_says 710 4520 6509 ≡ false
  pub top_met : table_says 4520 4520 18080 ≡ true
  pub top_missed : table_says 4520 4520 18081 ≡ false
  -- 10, 11: EN 1998-1 without damping, and at its least factor
  pub undamped_met : eurocode_says 0 4520 2260 ≡ true
  pub undamped_missed : eurocode_says 0 4520 2261 ≡ false
  pub damped_met : eurocode_says 4520 4520 14942 ≡ true
  pub damped_missed : eurocode_says 4520 4520 14943 ≡ false

-- in newtons times tenths of a millimetre, by an acceleration in hundredths of g, a site and a weight in kilonewtons
pub record Demands : Type 0 where
  -- 12
  pub worked : demand_of 30 (site_tenths II) 4000 ≡ 2037303900
  pub least : demand_of 1 (site_tenths I) 1 ≡ 252

-- the last that is made and the first that is refused
pub record Edges : Type 0 where
  pub lead_made_yet : lead_made 166 114 500 62 150 ≡ Ok (lead_of 166 114 500 62 150)
  pub lead_too_wide : lead_made 167 114 500 62 150 ≡ Err (plain_fault LeadTooWide Bearing)
  pub pendulum_too_strong : pendulum_made 20000 200 200 ≡ Err (plain_fault TooStrong Bearing)
  pub pendulum_made_yet : pendulum_made 20000 200 300 ≡ Ok (pendulum_of 20000 200 300)

pub record Figures : Type 0 where
  pub bearings : Bearings
  pub rules : Rules
  pub demands : Demands
  pub edges : Edges
