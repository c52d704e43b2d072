-- `modules::Version::versions` meets its contract: each place is in the matrix.
use native.Mathlib.Omega.{arith}
use Rattle.std.proofs.Common.{rules}
use Rattle.modules.proofs.Drawn.{version_inside}
use Rattle.modules.proofs.Version.versions.Goals as goal

pub draw-requires-clause-inside : goal.draw-requires-clause-inside
draw-requires-clause-inside c = λ t p h e. version_inside c.args.self.v t _ p (omega arith) (omega arith) h (omega arith) (search rules)
