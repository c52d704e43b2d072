-- `modules::finish` meets its contract: the invariant: the first i rows are finished, and the rest is as it was.
use mathlib.Core.Path.{◌≡◌}
use mathlib.Core.List.{◌++◌}
use Prim.Native.Nat.{◌*◌}
use lib.ListN.{drop}
use Rattle.basics.specs.Build.{build}
use Rattle.modules.proofs.Tints.{finish_at}
use Rattle.modules.proofs.finish.Given as goal

abbrev pub invariant-loop-i : goal.invariant-loop-i
invariant-loop-i l = l.out ≡ build (finish_at l.v l.level l.mask l.base) (l.i * l.s) ++ drop (l.i * l.s) l.initial.out
