use Rattle.std.proofs.Common.{◌≡◌, Some, None, Err, sym, ap, ◌∙◌, ap₂, arith}
use Rattle.listing.specs.Lists.{listed}
use Rattle.std.specs.Option.{option_map}
use Rattle.std.proofs.lemmas.Result.{err_from_is_err_and}
use Rattle.bearing.specs.Refusals.{on_line, with_ok}
use Rattle.loading.specs.declared.weighing.Weight.{Weight}
use Rattle.sheet.specs.Machine.{state_of, step, after, answer}
use Rattle.sheet.specs.Parts.{rest}
use Rattle.sheet.specs.Reading.{Content, ended_with, last_part}
use Rattle.sheet.proofs.Cuts.{shorter}
use Rattle.sheet.proofs.Turns.{run_none, run_ok, run_err, ok_at, err_at, last_is}
use Rattle.sheet.proofs.reading.read_lines.Goals as goal

pub returns-in_err-on_line-clause-content : goal.returns-in_err-on_line-clause-content
returns-in_err-on_line-clause-content c =
    let st = state_of c.loop-k.reader (listed c.loop-k.rows).items (listed c.loop-k.cases).items in
    let places = (listed c.args.rows.now).capacity in
    let seats = (listed c.args.cases.now).capacity in
    let line = c.split_first.result.0.now in
    let e : Some c.in-Some.more.now ≡ rest 10 c.loop-k.left.now = sym (ap (option_map (λ x. x.now)) c.in-Some.is) ∙ c.split_first.ensures.more in
    let same : step (listed c.loop-k.rows).capacity (listed c.loop-k.cases).capacity st line ≡ step places seats st line =
    ap₂ (λ a b. step a b st line) c.loop-k.invariant.1 c.loop-k.invariant.2 in
    let p = err_from_is_err_and c.from_residual.result c.from_residual.ensures.1 in
    let z = err_at c.loop-k.k (step places seats st line) c.in_err-on_line.field-0.0
    (sym (c.on_line-in-loop-k.ensures ∙ ap (on_line c.loop-k.k) (c.take.ensures.result ∙ ap answer same)) ∙ c.in_err-on_line.was) in
    let q = sym c.loop-k.invariant.0 ∙ run_err places seats c.loop-k.k st z.0 c.loop-k.left.now line c.in-Some.more.now e c.split_first.ensures.first z.1 in
    ap (λ r. with_ok {T = Content} r (λ (w : Weight). record { weight = w.kn; rows = (listed c.take.new.rows).items; cases = (listed c.take.new.cases).items })) (p.1 ∙ ap Err (p.2 ∙ z.2)) ∙ sym q

pub loop-k-preserved : goal.loop-k-preserved
loop-k-preserved c =
    let st = state_of c.loop-k.reader (listed c.loop-k.rows).items (listed c.loop-k.cases).items in
    let next = state_of c.take.new.self (listed c.take.new.rows).items (listed c.take.new.cases).items in
    let places = (listed c.args.rows.now).capacity in
    let seats = (listed c.args.cases.now).capacity in
    let line = c.split_first.result.0.now in
    let e : Some c.in-Some.more.now ≡ rest 10 c.loop-k.left.now = sym (ap (option_map (λ x. x.now)) c.in-Some.is) ∙ c.split_first.ensures.more in
    let same : step (listed c.loop-k.rows).capacity (listed c.loop-k.cases).capacity st line ≡ step places seats st line =
    ap₂ (λ a b. step a b st line) c.loop-k.invariant.1 c.loop-k.invariant.2 in
    let done = ok_at c.loop-k.k st next (step places seats st line) c.in_ok-on_line.field-0
    (c.take.ensures.state ∙ ap (λ x. after x st) same)
    (sym (c.on_line-in-loop-k.ensures ∙ ap (on_line c.loop-k.k) (c.take.ensures.result ∙ ap answer same)) ∙ c.in_ok-on_line.was) in (
      sym (run_ok places seats c.loop-k.k st next c.loop-k.left.now line c.in-Some.more.now e c.split_first.ensures.first done) ∙ c.loop-k.invariant.0,
      c.take.ensures.rowplaces ∙ c.loop-k.invariant.1,
      c.take.ensures.caseplaces ∙ c.loop-k.invariant.2,
      omega (arith, c.loop-k.invariant.3, shorter 10 c.loop-k.left.now c.in-Some.more.now e),
    )

pub returns-in_default-clause-content : goal.returns-in_default-clause-content
returns-in_default-clause-content c =
    let st = state_of c.loop-k.reader (listed c.loop-k.rows).items (listed c.loop-k.cases).items in
    let e : None ≡ rest 10 c.loop-k.left.now = sym (ap (option_map (λ x. x.now)) c.in_default.is) ∙ c.split_first.ensures.more in
    let line = c.split_first.result.0.now in
    ap (λ r. with_ok {T = Content} r (λ (w : Weight). record { weight = w.kn; rows = (listed c.loop-k.rows).items; cases = (listed c.loop-k.cases).items })) c.on_line.ensures
    ∙ last_is c.loop-k.k st line c.end.result (c.end.ensures ∙ ap (ended_with line st.at) c.len.ensures.value)
    ∙ ap (last_part c.loop-k.k st) c.split_first.ensures.first
    ∙ sym (run_none (listed c.args.rows.now).capacity (listed c.args.cases.now).capacity c.loop-k.k st c.loop-k.left.now e)
    ∙ c.loop-k.invariant.0
