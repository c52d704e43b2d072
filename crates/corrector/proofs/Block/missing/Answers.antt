-- `corrector::Block::missing` meets its contract.
use Rattle.std.proofs.Common.{eqb, not, ◌∙◌, rules, tests}
use Rattle.std.proofs.lemmas.Iterator.{YieldsList-from_slice, YieldsList-from_map}
use Rattle.std.proofs.lemmas.Iterator.Consumers.{YieldsList-at, sum_by_from_yields_List}
use Rattle.basics.specs.Sums.{one}
use Rattle.code.specs.Code.{unreadable}
use Rattle.corrector.proofs.Counting.{counted}
use Rattle.corrector.proofs.Block.missing.Goals as goal

pub returns : goal.returns
unfolding unreadable
returns c = let flags = c.args.self.flags.now in
    sum_by_from_yields_List (λ flag. one (not (eqb flag 0))) flags c.map.result c.sum.result c.sum.ensures.ran
    (YieldsList-from_map _ (λ flag. one (not (eqb flag 0))) (YieldsList-at c.map.ensures.source (YieldsList-from_slice flags cc)) c.map.ensures.closure (λ x r q k. search (rules, tests)))
    ∙ counted (λ flag. not (eqb flag 0)) flags
