use Rattle.std.proofs.Common.{◌≡◌, length, rules}
use Rattle.listing.specs.Lists.{listed}
use Rattle.bearing.specs.Refusals.{with_ok}
use Rattle.page.specs.Pages.{begun_len}
use Rattle.deck.specs.Whole.{outcomes, lines_answer}
use Rattle.deck.proofs.Contents.{summed}
use Rattle.deck.proofs.job.write_page.Goals as goal

pub returns-clause-result : goal.returns-clause-result
returns-clause-result c =
    let rows = (listed c.args.bridge.now.rows).items in
    let W = c.args.bridge.now.weight.kn in
    let size = length c.args.page.now in
    let sum : c.map-result.result ≡ with_ok c.write_cases-written.result.1 (λ n. record { rows = length (listed c.args.bridge.now.rows).items; cases = length c.args.cases.now; answered = n }) = search rules in
    summed rows W c.args.cases.now (lines_answer size (begun_len size) 0 (outcomes rows W c.args.cases.now)) c.write_cases-written.result.1 c.map-result.result
    c.write_cases-written.ensures.result sum
