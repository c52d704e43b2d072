-- `corrector::Block::differ` meets its contract.
use Rattle.std.proofs.Common.{ℕ, eqb, not, ◌&&◌, ◌∙◌, rules, tests}
use Rattle.std.proofs.lemmas.Iterator.{YieldsList-from_slice, YieldsList-from_zip}
use Rattle.std.proofs.lemmas.Iterator.Consumers.{YieldsList-at, YieldsList-from_filter, count_from_yields_List}
use Rattle.code.specs.Code.{differing}
use Rattle.corrector.proofs.Counting.{filtered_zip}
use Rattle.corrector.proofs.Block.differ.Goals as goal

pub returns : goal.returns
unfolding differing
returns c = let a = c.args in
    count_from_yields_List c.filter.result c.count.result c.count.ensures.ran
    (YieldsList-from_filter _ (λ (p : (ℕ × ℕ) × ℕ). eqb p.0.1 0 && not (eqb p.0.0 p.1))
    (YieldsList-at c.filter.ensures.source
    (YieldsList-from_zip
    (YieldsList-at c.zip-2.ensures.first (YieldsList-from_zip (YieldsList-at c.zip.ensures.first (YieldsList-from_slice a.self.word.now cc)) (YieldsList-from_slice a.self.flags.now (search rules))))
    (YieldsList-from_slice a.c.now (search rules))))
    c.filter.ensures.closure (λ x b q k. search (rules, tests)))
    ∙ filtered_zip (λ (p : (ℕ × ℕ) × ℕ). eqb p.0.1 0 && not (eqb p.0.0 p.1)) a.self.word.now a.self.flags.now a.c.now a.self.flagged c.requires
