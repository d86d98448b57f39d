use Rattle.std.proofs.Common.{◌≡◌, ◌<◌, ◌≤◌, Bool, cond, length, get_or, refl, ap, ◌∙◌, rules, Err}
use Rattle.listing.specs.Lists.{listed}
use Rattle.std.proofs.lemmas.Bool.{lt-ltb}
use Rattle.bearing.specs.Refusals.{with_ok}
use Rattle.sheet.specs.declared.machine.Reader.{Reader}
use Rattle.sheet.specs.declared.machine.Reader.TheVariants as reader
use Rattle.sheet.specs.RowLines.{names_fault, row_line}
use Rattle.sheet.specs.Machine.{State, Stage, Standing, standing, state_of, named_as, weighed, step_at, weight_names, row_names, case_names, cases_named, kept, step}
use Rattle.sheet.proofs.Standing.{changed, begins_case}
use Rattle.sheet.proofs.machine.Reader.take.Goals as goal

pub returns-in-WeightNames-default : goal.returns-in-WeightNames-default
returns-in-WeightNames-default c =
    let rows = listed c.args.rows.now in
    let cases = listed c.args.cases.now in
    let line = c.args.line.now in
    let t = changed rows.capacity cases.capacity (state_of c.args.self.now rows.items cases.items) line
    (named_as weight_names (standing reader.WeightValue) line) (λ s. record { at = s; rows = rows.items; cases = cases.items }) (standing c.args.self.now) refl
    (ap (λ (r : Reader). step rows.capacity cases.capacity (state_of r rows.items cases.items) line) c.in-WeightNames-default.is-0)
    c.name.result (standing c.name.new.self) c.name.ensures.result c.name.ensures.at in
    record { result = t.result; state = t.state; rowplaces = refl; caseplaces = refl }

pub returns-in-WeightValue-default : goal.returns-in-WeightValue-default
returns-in-WeightValue-default c =
    let rows = listed c.args.rows.now in
    let cases = listed c.args.cases.now in
    let line = c.args.line.now in
    let t = changed rows.capacity cases.capacity (state_of c.args.self.now rows.items cases.items) line
    (weighed (standing c.args.self.now) line) (λ s. record { at = s; rows = rows.items; cases = cases.items }) (standing c.args.self.now) refl
    (ap (λ (s : Stage). step_at rows.capacity cases.capacity s (state_of c.args.self.now rows.items cases.items) line) (ap (λ (r : Reader). (standing r).stage) c.in-WeightValue-default.is-0))
    c.weigh.result (standing c.weigh.new.self) c.weigh.ensures.result c.weigh.ensures.at in
    record { result = t.result; state = t.state; rowplaces = refl; caseplaces = refl }

pub returns-in-RowNames-default : goal.returns-in-RowNames-default
returns-in-RowNames-default c =
    let rows = listed c.args.rows.now in
    let cases = listed c.args.cases.now in
    let line = c.args.line.now in
    let t = changed rows.capacity cases.capacity (state_of c.args.self.now rows.items cases.items) line
    (named_as row_names (standing (reader.Rows c.in-RowNames-default.weight)) line) (λ s. record { at = s; rows = rows.items; cases = cases.items }) (standing c.args.self.now) refl
    (ap (λ (r : Reader). step rows.capacity cases.capacity (state_of r rows.items cases.items) line) c.in-RowNames-default.is-0)
    c.name-in-RowNames-default.result (standing c.name-in-RowNames-default.new.self) c.name-in-RowNames-default.ensures.result c.name-in-RowNames-default.ensures.at in
    record { result = t.result; state = t.state; rowplaces = refl; caseplaces = refl }

pub returns-in-Rows-eq99 : goal.returns-in-Rows-eq99
returns-in-Rows-eq99 c =
    let rows = listed c.args.rows.now in
    let cases = listed c.args.cases.now in
    let line = c.args.line.now in
    let weight = c.in-Rows-eq99.weight in
    let l : 4 ≤ length c.args.line.now = search rules in
    let b0 : get_or c.args.line.now 0 0 ≡ 99 = search rules in
    let b1 : get_or c.args.line.now 1 0 ≡ 97 = search rules in
    let b2 : get_or c.args.line.now 2 0 ≡ 115 = search rules in
    let b3 : get_or c.args.line.now 3 0 ≡ 101 = search rules in
    let some : 0 < length (listed c.args.rows.now).items = search rules in
    let to : Standing → State = λ s. record { at = s; rows = rows.items; cases = cases.items } in
    let next = named_as case_names (standing (reader.Cases weight)) line in
    let t = changed rows.capacity cases.capacity (state_of c.args.self.now rows.items cases.items) line next to (standing c.args.self.now) refl
    (ap (λ (r : Reader). step rows.capacity cases.capacity (state_of r rows.items cases.items) line) c.in-Rows-eq99.is-0
    ∙ ap (λ (b : Bool). cond b
    (with_ok (cases_named (length rows.items) (standing (reader.Rows weight)) line) to)
    (with_ok (kept rows.capacity rows.items (row_line line)) (λ rs. record { at = standing (reader.Rows weight); rows = rs; cases = cases.items })))
    (begins_case line l b0 b1 b2 b3)
    ∙ ap (λ (b : Bool). with_ok (cond b next (Err names_fault)) to) (lt-ltb 0 (length rows.items) some))
    c.name-in-Rows-eq99.result (standing c.name-in-Rows-eq99.new.self) c.name-in-Rows-eq99.ensures.result c.name-in-Rows-eq99.ensures.at in
    record { result = t.result; state = t.state; rowplaces = refl; caseplaces = refl }
