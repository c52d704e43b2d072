-- `corrector::Polynomial::slopes` meets its contract.
use Rattle.std.proofs.Common.{◌-◌, length}
use Rattle.corrector.proofs.Rows.{Row}
use Rattle.corrector.proofs.Turns.{Valued, Sloped}
use Rattle.corrector.proofs.Polynomial.slopes.Given as goal

abbrev pub invariant-loop-coefficient : goal.invariant-loop-coefficient
invariant-loop-coefficient l = Row l.r × Row l.p × Sloped l.fn.self.row l.xs l.r (l.fn.self.many - length l.yielded) × Valued l.fn.self.row l.xs l.p (l.fn.self.many - length l.yielded)
