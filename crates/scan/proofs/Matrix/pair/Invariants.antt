-- `scan::Matrix::pair` meets its contract. The loops' invariants: the entries so far are the data modules that the steps so far met.
use Rattle.std.proofs.Common.{◌+◌, ◌*◌}
use Rattle.tables.specs.Tables.{side}
use Rattle.scan.specs.Scan.{Walked}
use Rattle.scan.proofs.Matrix.pair.Given as goal

abbrev pub invariant-loop-t : goal.invariant-loop-t
invariant-loop-t l = Walked l.self.v l.self.rows.now l.self.m.now (l.q * (2 * side l.self.v) + 2 * l.t) l.count l.out

abbrev pub invariant-loop-column : goal.invariant-loop-column
invariant-loop-column l = Walked l.self.v l.self.rows.now l.self.m.now (l.q * (2 * side l.self.v) + (2 * l.t + l.column-index)) l.count l.out
