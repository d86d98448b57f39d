use Rattle.std.proofs.Common.{◌≡◌, ℕ, ◌+◌, ◌<◌, ◌≤◌, List, length, get_or, Ok, Err, Result, ap, ◌∙◌, arith, rules}
use Rattle.listing.specs.Lists.{listed}
use Rattle.bearing.specs.declared.fault.Fault.{Fault}
use Rattle.bearing.specs.Refusals.{with_ok}
use Rattle.page.specs.Text.{case_line, end_line, void_line}
use Rattle.page.specs.Pages.{begun_len, line_answer, closed, closed_len}
use Rattle.page.specs.Runs.{page_run}
use Rattle.deck.specs.Whole.{case_outcome, outcomes, one_if_answered, answered, lines_answer}
use Rattle.deck.proofs.Lines.{past, end_begun, ok_by, one_at_most, made_at, turn_taken, turn_voided, turns_ended}
use Rattle.deck.proofs.job.write_cases.Goals as goal

-- a line that is taken answers one case at most
one_case : (c : goal.In-Ok) → c.in-Ok.one ≤ 1
one_case c =
    let o = case_outcome (listed c.args.bridge.now.rows).items c.args.bridge.now.weight.kn (get_or c.args.cases.now c.loop-numbers.numbers-index past) in
    omega (
      arith,
      one_at_most o,
      (ok_by (line_answer (length c.loop-numbers.page.buffer.now) c.loop-numbers.page.len c.loop-numbers.page.cases (case_line (c.loop-numbers.page.cases + 1) o)) c.in-Ok.one (one_if_answered o) c.in-Ok.ensures.result).1,
    )

pub write_case-requires : goal.write_case-requires
write_case-requires c = made_at c.args.cases.now c.loop-numbers.numbers-index past c.requires c.loop-numbers-test.true

pub overflow_add-answered : goal.overflow_add-answered
overflow_add-answered c = let one : c.in-Ok.one ≤ 1 = one_case c in omega arith

pub returns-in-Err : goal.returns-in-Err
returns-in-Err c =
    let rows = (listed c.args.bridge.now.rows).items in
    let W = c.args.bridge.now.weight.kn in
    let os = outcomes rows W c.args.cases.now in
    let l : c.loop-numbers.numbers-index < length c.args.cases.now = omega arith in
    let k = c.write_case.ensures.same ∙ c.loop-numbers.invariant.0 ∙ c.begin-page.ensures.same in
    let s = turn_voided rows W c.loop-numbers.page.buffer.now c.write_case.new.page.buffer.now c.loop-numbers.page.len c.write_case.new.page.len c.loop-numbers.page.cases c.loop-numbers.answered c.loop-numbers.numbers-index c.args.cases.now past c.in-Err.fault l
    c.in-Err.ensures.result c.in-Err.ensures.bytes c.in-Err.ensures.len
    ∙ c.loop-numbers.invariant.1
    ∙ end_begun c.args.buffer.now c.begin-page.result.buffer.now c.begin-page.result.len c.begin-page.result.cases os c.begin-page.ensures.bytes c.begin-page.ensures.len c.begin-page.ensures.cases in
    let q : closed c.write_case.new.page.buffer.now c.write_case.new.page.len void_line ≡ (page_run c.args.buffer.now os).0 = ap (λ (p : (List ℕ × ℕ) × Result ℕ Fault). p.0.0) s in
    let v : closed_len (length c.write_case.new.page.buffer.now) c.write_case.new.page.len void_line ≡ (page_run c.args.buffer.now os).1 = ap (λ (p : (List ℕ × ℕ) × Result ℕ Fault). p.0.1) s in
    let t : Err c.in-Err.fault ≡ with_ok (lines_answer (length c.args.buffer.now) (begun_len (length c.args.buffer.now)) 0 os) (λ _. answered os) = ap (λ (p : (List ℕ × ℕ) × Result ℕ Fault). p.1) s in
    search rules

pub loop-numbers-preserved : goal.loop-numbers-preserved
loop-numbers-preserved c =
    let rows = (listed c.args.bridge.now.rows).items in
    let W = c.args.bridge.now.weight.kn in
    let l : c.loop-numbers.numbers-index < length c.args.cases.now = omega arith in
    let one : c.in-Ok.one ≤ 1 = one_case c in (
      c.write_case.ensures.same ∙ c.loop-numbers.invariant.0,
      turn_taken rows W c.loop-numbers.page.buffer.now c.write_case.new.page.buffer.now c.loop-numbers.page.len c.write_case.new.page.len c.loop-numbers.page.cases c.write_case.new.page.cases c.loop-numbers.answered c.in-Ok.one c.loop-numbers.numbers-index c.args.cases.now past l
          c.in-Ok.ensures.result c.in-Ok.ensures.bytes c.in-Ok.ensures.len c.in-Ok.ensures.cases
          ∙ c.loop-numbers.invariant.1,
      omega (arith, c.loop-numbers.invariant.2),
    )

pub returns : goal.returns
returns c =
    let rows = (listed c.args.bridge.now.rows).items in
    let W = c.args.bridge.now.weight.kn in
    let os = outcomes rows W c.args.cases.now in
    let l : length c.args.cases.now ≤ c.loop-numbers.numbers-index = omega arith in
    let k = c.loop-numbers.invariant.0 ∙ c.begin-page.ensures.same in
    let s = turns_ended rows W c.loop-numbers.page.buffer.now c.loop-numbers.page.len c.loop-numbers.page.cases c.loop-numbers.answered c.loop-numbers.numbers-index c.args.cases.now l
    ∙ c.loop-numbers.invariant.1
    ∙ end_begun c.args.buffer.now c.begin-page.result.buffer.now c.begin-page.result.len c.begin-page.result.cases os c.begin-page.ensures.bytes c.begin-page.ensures.len c.begin-page.ensures.cases in
    let q : closed c.loop-numbers.page.buffer.now c.loop-numbers.page.len (end_line c.loop-numbers.page.cases) ≡ (page_run c.args.buffer.now os).0 = ap (λ (p : (List ℕ × ℕ) × Result ℕ Fault). p.0.0) s in
    let v : closed_len (length c.loop-numbers.page.buffer.now) c.loop-numbers.page.len (end_line c.loop-numbers.page.cases) ≡ (page_run c.args.buffer.now os).1 = ap (λ (p : (List ℕ × ℕ) × Result ℕ Fault). p.0.1) s in
    let t : Ok c.loop-numbers.answered ≡ with_ok (lines_answer (length c.args.buffer.now) (begun_len (length c.args.buffer.now)) 0 os) (λ _. answered os) = ap (λ (p : (List ℕ × ℕ) × Result ℕ Fault). p.1) s in
    search rules
