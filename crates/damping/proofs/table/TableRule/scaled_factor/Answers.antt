use Rattle.std.proofs.Common.{rules}
use Rattle.damping.specs.Table.{table, scaled_factor}
use Rattle.damping.specs.Lines.{reads}
use Rattle.damping.specs.Growth.{sound}
use Rattle.damping.proofs.table.TableRule.scaled_factor.Goals as goal

pub returns-then-p-le64000000000000 : goal.returns-then-p-le64000000000000
unfolding scaled_factor
returns-then-p-le64000000000000 c = record { value = search rules; exact = reads table sound }

pub returns-else-e-p : goal.returns-else-e-p
returns-else-e-p c = record { value = search rules; exact = reads table sound }
