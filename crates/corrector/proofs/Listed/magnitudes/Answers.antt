-- `corrector::Listed::magnitudes` meets its contract.
use Rattle.corrector.specs.Lanes.{filled}
use Rattle.corrector.proofs.Turns.{magnitudes_made}
use borrow.Author.Rules.{rules}
use Rattle.corrector.proofs.Rows.{row}
use Rattle.corrector.proofs.Listed.magnitudes.Goals as goal

pub returns : goal.returns
unfolding filled
returns c = let product = c.locator-product in
    let sums = c.evaluator-sums in
    let tops = c.values-tops.result in
    let bottoms = c.slopes-bottoms.result in
    magnitudes_made c.args.self.now.xs c.args.self.now.count c.args.s product.result.row sums.result.row tops bottoms c.inverses.result c.times_plus.result
    product.ensures.1 sums.ensures.1 c.values-tops.ensures c.slopes-bottoms.ensures c.inverses.ensures c.times_plus.ensures
    (row tops (search rules) (λ h. search rules)) (row bottoms (search rules) (λ h. search rules))
