use Rattle.damping.proofs.fractions.+at_least.Goals as goal
use Rattle.damping.proofs.Remainders.{apart, same, done, short}

pub returns-then-whole-other : goal.returns-then-whole-other
returns-then-whole-other t c = let e = apart c.args.a c.args.b c.args.c c.args.d c.requires.0 c.requires.1 c.if-whole-other.true in cc

pub returns-then-due-eq0 : goal.returns-then-due-eq0
returns-then-due-eq0 t c = let e = done c.args.a c.args.b c.args.c c.args.d c.if-whole-other.false c.if-due-eq0.true in cc

pub returns-then-rest-eq0 : goal.returns-then-rest-eq0
returns-then-rest-eq0 t c = let e = short c.args.a c.args.b c.args.c c.args.d c.requires.0 c.if-whole-other.false c.if-due-eq0.false c.if-rest-eq0.true in cc

pub returns : goal.returns
returns t c = let e = same c.args.a c.args.b c.args.c c.args.d c.if-whole-other.false in cc
