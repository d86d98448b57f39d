-- What makes a case is its own numbers. Assumes nothing.
use Rattle.std.proofs.Common.{◌≡◌, Bool, true, false, cond, ◌&&◌, leb, Ok, Err, Result}
use Rattle.bearing.specs.declared.fault.Fault.{Fault}
use Rattle.bearing.specs.Refusals.{and_then}
use Rattle.bearing.specs.Checks.{clash}
use Rattle.loading.specs.Making.{case_field, case_made}
use Rattle.sheet.specs.CaseLines.{Numbers}

-- a check that passed hands on to the next
passed : {T : Type 0} (r : Result (Unit {0}) Fault) (f : Unit {0} → Result T Fault) (m : T) → and_then r f ≡ Ok m → f tt ≡ Ok m
passed (Ok u) f m e = e
passed (Err z) f m e = absurd (clash e)

chosen : {T : Type 0} (b : Bool) (x m : T) (z : Fault) → ◌≡◌ {A = Result T Fault} (cond b (Ok x) (Err z)) (Ok m) → x ≡ m
chosen true x m z e = cc
chosen false x m z e = absurd (clash e)

-- what makes a case is those numbers themselves
pub case_same : (n m : Numbers) → case_made n ≡ Ok m → n ≡ m
case_same n m e =
    let a = passed (case_field n.accel 1 100 1) _ m e in
    let b = passed (case_field n.slo 50 300 3) _ m a in
    let c = passed (case_field n.shi 50 300 4) _ m b in
    let d = passed (case_field n.klo 50 300 5) _ m c in
    let f = passed (case_field n.khi 50 300 6) _ m d in
    chosen (leb n.slo n.shi && leb n.klo n.khi) n m _ f
