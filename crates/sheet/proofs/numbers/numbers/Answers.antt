use Rattle.std.proofs.Common.{◌≡◌, ℕ, ◌+◌, ◌-◌, ◌<◌, List, length, take, Some, None, Option, sym, ap, ◌∙◌, arith, Bor}
use Rattle.std.specs.Option.{option_map}
use Rattle.std.proofs.lemmas.List.{length-set, take_more_set}
use Rattle.sheet.specs.Numbers.{parsed, sized, cons_if}
use Rattle.sheet.specs.Parts.{parts_of, first, rest}
use Rattle.sheet.proofs.Taken.{join_to, one_more, join_some, sized_zero}
use Rattle.sheet.proofs.numbers.numbers.Goals as goal

-- what is still to come, by what is left
abbrev yet : List ℕ → ℕ → Option (Bor (List ℕ)) → Option (List ℕ)
yet ns k o = join_to ns (sized k (parts_of 44 (option_map (λ x. x.now) o)))

pub returns-in_err-n : goal.returns-in_err-n
returns-in_err-n g c =
    let ns = take c.loop-n.n-index c.loop-n.n-items in
    let text = c.in_ok-left.field-0.now in
    let n : parsed (first 44 text) ≡ None = ap parsed (sym c.split_first.ensures.first) ∙ sym c.in_err-n.ensures in
    c.from_residual-in_err-n.ensures
    ∙ sym (sym c.loop-n.invariant.1 ∙ ap (yet ns (g.row.N - c.loop-n.n-index)) c.in_ok-left.was ∙ one_more ns g.row.N c.loop-n.n-index text c.loop-n-test.true
    ∙ ap (λ o. join_to ns (cons_if o (sized (g.row.N - (c.loop-n.n-index + 1)) (parts_of 44 (rest 44 text))))) n)

pub loop-n-preserved : goal.loop-n-preserved
loop-n-preserved g c =
    let ns = take c.loop-n.n-index c.loop-n.n-items in
    let v = c.in_ok-n.field-0 in
    let k = g.row.N - (c.loop-n.n-index + 1) in
    let l : c.loop-n.n-index < length c.loop-n.n-items = omega (arith, c.loop-n.invariant.0) in
    let n : parsed (first 44 c.in_ok-left.field-0.now) ≡ Some v = ap parsed (sym c.split_first.ensures.first) ∙ sym c.number.ensures ∙ c.in_ok-n.was in (
      length-set c.loop-n.n-items c.loop-n.n-index v ∙ c.loop-n.invariant.0,
      ap (λ ms. yet ms k c.split_first.result.1) (take_more_set c.loop-n.n-items c.loop-n.n-index v l)
          ∙ sym (join_some ns v (sized k (parts_of 44 (option_map (λ x. x.now) c.split_first.result.1))))
          ∙ ap (λ m. join_to ns (cons_if (Some v) (sized k (parts_of 44 m)))) c.split_first.ensures.more
          ∙ ap (λ o. join_to ns (cons_if o (sized k (parts_of 44 (rest 44 c.in_ok-left.field-0.now))))) (sym n)
          ∙ sym (one_more ns g.row.N c.loop-n.n-index c.in_ok-left.field-0.now c.loop-n-test.true) ∙ sym (ap (yet ns (g.row.N - c.loop-n.n-index)) c.in_ok-left.was) ∙ c.loop-n.invariant.1,
    )

pub returns-in-Some : goal.returns-in-Some
returns-in-Some g c =
    let ns = take c.loop-n.n-index c.loop-n.n-items in
    let z : g.row.N - c.loop-n.n-index ≡ 0 = omega arith in
    sym (sym c.loop-n.invariant.1 ∙ ap (yet ns (g.row.N - c.loop-n.n-index)) c.in-Some.is ∙ sized_zero ns (g.row.N - c.loop-n.n-index) c.in-Some.field-0.now z)
