-- `penalty::copy_line` meets its contract. The invariant: the first k modules are copied.
use Rattle.std.proofs.Common.{◌≡◌, ◌+◌, ◌*◌, take, get_or}
use Rattle.basics.specs.Build.{build}
use Rattle.penalty.proofs.copy_line.Given as goal

abbrev pub invariant-loop-k : goal.invariant-loop-k
invariant-loop-k l = take l.k l.out ≡ build (λ j. get_or l.m (l.start + j * l.stride) 0) l.k
