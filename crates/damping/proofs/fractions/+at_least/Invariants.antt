use Rattle.std.proofs.Common.{◌+◌}
use Rattle.damping.proofs.fractions.+at_least.Given as goal

abbrev pub decreases-at_least : goal.decreases-at_least
decreases-at_least l = l.b + l.d
