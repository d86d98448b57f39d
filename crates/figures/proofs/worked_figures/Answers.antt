use Rattle.figures.proofs.Computed.{figures, answers, not_refused}
use Rattle.figures.proofs.worked_figures.Goals as goal

pub returns-in-Ok : goal.returns-in-Ok
returns-in-Ok c = record { stand = figures; value = answers c.in-Ok.lead c.answer.result c.in-Ok.ensures c.answer.ensures }

pub returns-in-Err : goal.returns-in-Err
returns-in-Err c = absurd (not_refused _ c.in-Err.ensures)
