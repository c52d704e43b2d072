-- `corrector::Polynomial::values` meets its contract.
use Rattle.std.proofs.Common.{◌-◌, length}
use Rattle.corrector.proofs.Rows.{Row}
use Rattle.corrector.proofs.Turns.{Valued}
use Rattle.corrector.proofs.Polynomial.values.Given as goal

abbrev pub invariant-loop-coefficient : goal.invariant-loop-coefficient
invariant-loop-coefficient l = Row l.r × Valued l.fn.self.row l.xs l.r (l.fn.self.many - length l.yielded)
