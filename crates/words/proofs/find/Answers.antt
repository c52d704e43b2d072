-- `words::find` meets its contract. The loop's invariant: the copy stands for no word that was passed.
use Rattle.std.proofs.Common.{rules, arith, tests, below_more}
use Rattle.words.proofs.find.Goals as goal

pub loop-x-preserved : goal.loop-x-preserved
loop-x-preserved g c = below_more _ _ c.loop-x.invariant (λ _. (c.word.result, c.word.ensures, search (rules, tests)))

pub returns : goal.returns
returns g c = λ y least most. c.loop-x.invariant y (omega arith) least
