-- `penalty::turn` meets its contract. The invariant: the first i columns are copied, one after the other, and the rest is as it was.
use Rattle.std.proofs.Common.{◌≡◌, ◌++◌, ◌*◌, drop}
use Rattle.basics.specs.Lists.{joined}
use Rattle.penalty.specs.Lines.{lines_from}
use Rattle.penalty.proofs.turn.Given as goal

abbrev pub invariant-loop-i : goal.invariant-loop-i
invariant-loop-i l = l.out ≡ joined (lines_from l.m 0 1 l.s l.s l.i) ++ drop (l.i * l.s) l.initial.out
