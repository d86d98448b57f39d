-- How a bearing's force or energy is taken from formulas that hold within the ranges. Assumes nothing.
use Rattle.std.specs.Prelude.{Bool, cond}
use Rattle.bearing.specs.Ranges.{factor, travel}
use Rattle.bearing.specs.Laws.{Curve}

-- a value of s, k or d outside its range counts as the nearest end
abbrev pub clamped : Curve → Curve
clamped f s k d = f (factor s) (factor k) (travel d)

-- the formula f for fields that are accepted, else 0
abbrev pub if_accepted : Bool → Curve → Curve
if_accepted accepted f s k d = cond accepted (clamped f s k d) 0
