use Rattle.std.proofs.Common.{◌*◌, div-le_self, arith}
use Rattle.std.proofs.lemmas.Nat.{mul-le}
use Rattle.kinds.specs.PendulumsLemmas.{ranged_says, slip_below}
use Rattle.kinds.proofs.sliding.Pendulum.slide.Goals as goal

pub overflow_add-result : goal.overflow_add-result
overflow_add-result c =
    let b = c.args.self.now in
    let h = ranged_says b c.requires in
    let d = c.nearest_travel-d.result in
    omega (arith, slip_below b c.nearest_factor.result h (omega arith), div-le_self (100 * b.load * d) b.radius, mul-le (100 * b.load) d 2000000 10000 (omega (arith, h.load_top)) (omega arith))
