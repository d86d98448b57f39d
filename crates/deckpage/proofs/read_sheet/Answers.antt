use Rattle.std.proofs.Common.{rules, ◌≡◌, ℕ, ◌-◌, List, length, take, sym, ap, ◌∙◌, subst, arith, length-take, length-take-le}
use Rattle.std.specs.Option.{IfSome}
use Rattle.std.specs.Io.KnownBytes.{Consumes}
use Rattle.std.proofs.KnownBytes.{Consumes-trans}
use Rattle.std.proofs.lemmas.Slice.{overwrites}
use Rattle.deckpage.specs.Answering.{sheet_of}
use Rattle.deckpage.proofs.Reading.{read_more, read_none, read_full, read_all}
use Rattle.deckpage.proofs.read_sheet.Goals.{else-loop-test, then-loop-test+then-len-ge-MOST_READ, then-loop-test+else-len-ge-MOST_READ+in_ok-n+then-n-eq0}
use Rattle.deckpage.proofs.read_sheet.Goals as goal

pub loop-preserved : goal.loop-preserved
loop-preserved g c =
    let more = read_more c.loop.len (16385 - c.loop.len) c.in_ok-n.n c.loop.places c.read.new.buf (omega arith) c.in_ok-n.ensures.bound.0 in
    (search rules, search rules, search (rules, overwrites), subst (Consumes _ _) (sym more) (Consumes-trans _ _ _ _ _ c.loop.invariant.3 c.in_ok-n.ensures.bytes.0))

pub returns-clause-bytes : goal.returns-clause-bytes
returns-clause-bytes g c =
    let all = g.R.Read.remaining c.args.input in
    let places = c.loop.places in
    let long : length (take c.loop.len places) ≡ c.loop.len = length-take-le c.loop.len places (omega arith) in
    elim c.loop-test.branch [
      | else-loop-test w ↦
          subst (λ (xs : List ℕ). IfSome (sheet_of all) (λ b. xs ≡ b)) (sym (ap (take c.loop.len) w.places-is))
          (read_full all _ _ (omega (arith, long)) c.loop.invariant.3)
      | then-loop-test+then-len-ge-MOST_READ w ↦
          subst (λ (xs : List ℕ). IfSome (sheet_of all) (λ b. xs ≡ b)) (sym (ap (take c.loop.len) w.places-is))
          (read_full all _ _ (omega (arith, long)) c.loop.invariant.3)
      | then-loop-test+else-len-ge-MOST_READ+in_ok-n+then-n-eq0 w ↦
          let none = read_none c.loop.len (16385 - c.loop.len) w.in_ok-n.n places w.read.new.buf (omega arith) w.if-n-eq0.true in
          let here = subst (Consumes _ _) (sym (ap (take c.loop.len) w.places-is ∙ none)) (Consumes-trans _ _ _ _ _ c.loop.invariant.3 w.in_ok-n.ensures.bytes.0) in
          read_all all _ _ (omega (arith, length-take c.loop.len c.loop-test.places)) here (w.in_ok-n.ensures.bytes.1 w.if-n-eq0.true (search rules))
    ]
