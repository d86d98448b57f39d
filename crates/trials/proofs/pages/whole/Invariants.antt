use Rattle.std.proofs.Common.{◌≡◌, map, drop}
use Rattle.bridge.specs.Outcomes.{outcome}
use Rattle.page.specs.Runs.{run}
use Rattle.trials.proofs.pages.whole.Given as goal

-- the page lies in the same buffer, and what is left to write leads to what the whole leads to
abbrev pub invariant-loop-answer : goal.invariant-loop-answer
invariant-loop-answer l =
    (l.page.buffer.ghost_name ≡ l.initial.page.buffer.ghost_name)
    × (run l.page.buffer.now l.page.len l.page.cases (map outcome (drop l.answer-index l.answers))
    ≡ run l.initial.page.buffer.now l.initial.page.len l.initial.page.cases (map outcome l.answers))
