-- `modules::tint_row` meets its contract: the invariant: the first j colours are written.
use mathlib.Core.Path.{◌≡◌}
use lib.ListN.{take, get_or}
use Rattle.basics.specs.Build.{build}
use Rattle.modules.specs.Kinds.{tinted}
use Rattle.modules.proofs.tint_row.Given as goal

abbrev pub invariant-loop-j : goal.invariant-loop-j
invariant-loop-j l = take l.j l.out ≡ build (λ k. tinted l.plain l.turned l.row k (get_or l.base k 0)) l.j
