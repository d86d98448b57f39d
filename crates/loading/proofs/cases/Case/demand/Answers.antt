use Rattle.std.proofs.Common.{◌≡◌, arith}
use Rattle.loading.specs.Making.{demand_of}
use Rattle.loading.specs.Sites.{site_tenths}
use Rattle.loading.proofs.Demands.{site_top, product_top, demanded_top}
use Rattle.loading.proofs.cases.Case.demand.Goals as goal

pub overflow_mul-result-3 : goal.overflow_mul-result-3
overflow_mul-result-3 g c =
    let top = site_top c.args.self.now.numbers.site in
    omega (arith, product_top c.args.self.now.numbers.accel c.coefficient.result c.kilonewtons.result (omega arith) (omega arith) (omega arith))

pub overflow_add-result : goal.overflow_add-result
overflow_add-result g c =
    let top = site_top c.args.self.now.numbers.site in
    omega (arith, product_top c.args.self.now.numbers.accel c.coefficient.result c.kilonewtons.result (omega arith) (omega arith) (omega arith))

pub returns-clause-top : goal.returns-clause-top
unfolding demand_of
returns-clause-top g c =
    omega (arith, demanded_top c.args.self.now.numbers.accel c.coefficient.result c.kilonewtons.result (omega arith) (omega (arith, site_top c.args.self.now.numbers.site)) (omega arith))

pub returns-clause-value : goal.returns-clause-value
unfolding demand_of
returns-clause-value g c =
    let is : c.coefficient.result ≡ site_tenths c.args.self.now.numbers.site = c.coefficient.ensures in
    cc
