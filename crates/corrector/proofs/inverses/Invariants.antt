-- `corrector::inverses` meets its contract.
use Rattle.std.proofs.Common.{◌-◌}
use Rattle.corrector.proofs.Rows.{Row}
use Rattle.corrector.proofs.Turns.{Inverting}
use Rattle.corrector.proofs.inverses.Given as goal

abbrev pub invariant-loop : goal.invariant-loop
invariant-loop l = Row l.r × Row l.s × Inverting l.initial.s l.r l.s (7 - l.counter)
