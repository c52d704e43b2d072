-- `modules::Version::alignments` meets its contract: the invariant: the patterns of the pairs before (a, b) are drawn.
use mathlib.Core.Path.{◌≡◌}
use Prim.Native.Nat.{◌+◌, ◌*◌}
use lib.ListN.{length}
use Rattle.tables.specs.Tables.{centres}
use Rattle.modules.specs.Kinds.{aligned}
use Rattle.modules.proofs.Version.alignments.Given as goal

abbrev pub invariant-loop-a : goal.invariant-loop-a
invariant-loop-a l = l.out ≡ aligned l.self.v (l.a * length (centres l.self.v)) l.fn.out

abbrev pub invariant-loop-b : goal.invariant-loop-b
invariant-loop-b l = l.out ≡ aligned l.self.v (l.a * length (centres l.self.v) + l.b) l.fn.out
