use Rattle.std.proofs.Common.{Err, sym, ap, ◌∙◌}
use Rattle.sheet.specs.Machine.{standing, after, answer}
use Rattle.sheet.proofs.Standing.{named_not, named_so}
use Rattle.sheet.proofs.machine.Reader.name.Goals as goal

pub returns-then-ne : goal.returns-then-ne
returns-then-ne c =
    let e = named_not c.args.text.now c.args.line.now (standing c.args.next) c.if-ne.ensures in
    record { result = ap Err c.refuses.ensures ∙ sym (ap answer e); at = sym (ap (λ r. after r (standing c.args.self.now)) e) }

pub returns : goal.returns
returns c =
    let e = named_so c.args.text.now c.args.line.now (standing c.args.next) c.if-ne.ensures in
    record { result = sym (ap answer e); at = sym (ap (λ r. after r (standing c.args.self.now)) e) }
