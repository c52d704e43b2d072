-- `modules::Version::formats` meets its contract: each place is in the matrix.
use native.Mathlib.Omega.{arith}
use Rattle.std.proofs.Common.{rules}
use Rattle.modules.proofs.Drawn.{format_inside}
use Rattle.modules.proofs.Version.formats.Goals as goal

pub draw-requires-clause-inside : goal.draw-requires-clause-inside
draw-requires-clause-inside c = λ t p h e. format_inside c.args.self.v t _ p (omega arith) (omega arith) h (omega arith) (search rules)
