use Rattle.std.proofs.Common.{◌+◌, ◌<◌, length, get_or, drop, sym, ◌∙◌, arith}
use Rattle.std.proofs.lemmas.List.{at_drop_more}
use Rattle.sheet.specs.RowLines.{unused_zero}
use Rattle.sheet.proofs.Lining.{unused_own, unused_none}
use Rattle.sheet.proofs.rowlines.check_unused.Goals as goal
use Rattle.sheet.proofs.rowlines.check_unused.Goals.{else-j-own-via-then-j-own+else-x-gt0, else-j-own-via-else-j-own}

pub loop-j-preserved : goal.loop-j-preserved
loop-j-preserved c =
    let l : c.loop-j.j < length c.args.p.now = omega arith in
    let x = get_or c.args.p.now c.loop-j.j 0 in
    let xs = drop (c.loop-j.j + 1) c.args.p.now in
    let so_far = sym (at_drop_more (unused_zero c.args.own c.loop-j.j) c.args.p.now c.loop-j.j 0 l) ∙ c.loop-j.invariant in
    elim c.else-j-own.branch [
      | else-j-own-via-then-j-own+else-x-gt0 w ↦ sym (unused_none c.args.own c.loop-j.j x xs (omega (arith, w.if-x-gt0.false))) ∙ so_far
      | else-j-own-via-else-j-own w ↦ sym (unused_own c.args.own c.loop-j.j x xs (omega (arith, w.if-j-own.false))) ∙ so_far
    ]
