-- `corrector::Polynomial::evaluator` meets its contract.
use Rattle.corrector.proofs.Rows.{Row}
use Rattle.corrector.proofs.Turns.{Summed}
use Rattle.corrector.proofs.Polynomial.evaluator.Given as goal

abbrev pub invariant-loop-k : goal.invariant-loop-k
invariant-loop-k l = Row l.r × Summed l.self.row l.fn.s l.r l.k
