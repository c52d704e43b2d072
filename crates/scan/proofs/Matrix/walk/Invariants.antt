-- `scan::Matrix::walk` meets its contract. The loop's invariant: the column pairs before q are walked.
use Rattle.std.proofs.Common.{◌*◌}
use Rattle.tables.specs.Tables.{side}
use Rattle.scan.specs.Scan.{Walked}
use Rattle.scan.proofs.Matrix.walk.Given as goal

abbrev pub invariant-loop-q : goal.invariant-loop-q
invariant-loop-q l = Walked l.self.v l.self.rows.now l.self.m.now (l.q * (2 * side l.self.v)) l.n l.out
