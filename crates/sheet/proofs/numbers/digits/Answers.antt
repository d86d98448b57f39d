use Rattle.std.proofs.Common.{◌^◌, ◌<◌, ◌≤◌, arith}
use native.Mathlib.Nat.{pow-le-pow_right}
use Rattle.sheet.proofs.numbers.digits.Goals as goal

pub overflow_mul-n : goal.overflow_mul-n
overflow_mul-n c =
    let few : c.loop-b.b-index ≤ 6 = omega arith in
    let ten : 0 < 10 = omega arith in
    let p : 10 ^ c.loop-b.b-index ≤ 10 ^ 6 = pow-le-pow_right ten few in
    omega arith

pub overflow_add-n : goal.overflow_add-n
overflow_add-n c =
    let few : c.loop-b.b-index ≤ 6 = omega arith in
    let ten : 0 < 10 = omega arith in
    let p : 10 ^ c.loop-b.b-index ≤ 10 ^ 6 = pow-le-pow_right ten few in
    omega arith
