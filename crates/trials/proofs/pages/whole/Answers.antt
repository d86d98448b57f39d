use Rattle.std.proofs.Common.{◌≡◌, ℕ, ◌<◌, ◌≤◌, List, map, length, ap, ◌∙◌, arith, rules}
use Rattle.bridge.specs.Outcomes.{outcome}
use Rattle.page.specs.Runs.{page_run}
use Rattle.page.proofs.Turns.{run_begun, run_taken, run_voided, run_ended}
use Rattle.trials.proofs.pages.whole.Goals as goal

pub returns-in-Err : goal.returns-in-Err
returns-in-Err c =
    let l : c.loop-answer.answer-index < length c.args.answers.now = omega arith in
    let k = c.line.ensures.same ∙ c.loop-answer.invariant.0 ∙ c.begin-page.ensures.same in
    let s = run_voided c.loop-answer.page.buffer.now c.line.new.self.buffer.now c.loop-answer.page.len c.line.new.self.len c.loop-answer.page.cases c.loop-answer.answer-index c.args.answers.now c.in-Err.field-0 l
    c.in-Err.ensures.result c.in-Err.ensures.bytes c.in-Err.ensures.len
    ∙ c.loop-answer.invariant.1
    ∙ run_begun c.args.buffer.now c.begin-page.result.buffer.now c.begin-page.result.len c.begin-page.result.cases (map outcome c.args.answers.now) c.begin-page.ensures.bytes c.begin-page.ensures.len c.begin-page.ensures.cases in
    let q : c.void.new.self.0 ≡ (page_run c.args.buffer.now (map outcome c.args.answers.now)).0 = c.void.ensures.bytes ∙ ap (λ (p : List ℕ × ℕ). p.0) s in
    let v : c.void.result ≡ (page_run c.args.buffer.now (map outcome c.args.answers.now)).1 = c.void.ensures.value ∙ ap (λ (p : List ℕ × ℕ). p.1) s in
    search rules

pub loop-answer-preserved : goal.loop-answer-preserved
loop-answer-preserved c =
    let l : c.loop-answer.answer-index < length c.args.answers.now = omega arith in (
      c.line.ensures.same ∙ c.loop-answer.invariant.0,
      run_taken c.loop-answer.page.buffer.now c.line.new.self.buffer.now c.loop-answer.page.len c.line.new.self.len c.loop-answer.page.cases c.line.new.self.cases c.loop-answer.answer-index c.args.answers.now c.in-Ok.field-0 l
          c.in-Ok.ensures.result c.in-Ok.ensures.bytes c.in-Ok.ensures.len c.in-Ok.ensures.cases
          ∙ c.loop-answer.invariant.1,
    )

pub returns : goal.returns
returns c =
    let l : length c.args.answers.now ≤ c.loop-answer.answer-index = omega arith in
    let k = c.loop-answer.invariant.0 ∙ c.begin-page.ensures.same in
    let s = run_ended c.loop-answer.page.buffer.now c.loop-answer.page.len c.loop-answer.page.cases c.loop-answer.answer-index c.args.answers.now l
    ∙ c.loop-answer.invariant.1
    ∙ run_begun c.args.buffer.now c.begin-page.result.buffer.now c.begin-page.result.len c.begin-page.result.cases (map outcome c.args.answers.now) c.begin-page.ensures.bytes c.begin-page.ensures.len c.begin-page.ensures.cases in
    let q : c.end.new.self.0 ≡ (page_run c.args.buffer.now (map outcome c.args.answers.now)).0 = c.end.ensures.bytes ∙ ap (λ (p : List ℕ × ℕ). p.0) s in
    let v : c.end.result ≡ (page_run c.args.buffer.now (map outcome c.args.answers.now)).1 = c.end.ensures.value ∙ ap (λ (p : List ℕ × ℕ). p.1) s in
    search rules
