-- `modules::draw` meets its contract: the invariant: t stores are made.
use mathlib.Core.Path.{◌≡◌}
use Prim.Native.Nat.{ℕ}
use Rattle.basics.specs.Walk.{walked}
use Rattle.modules.specs.Kinds.{Gives}
use Rattle.modules.proofs.draw.Given as goal

abbrev pub invariant-loop-t : goal.invariant-loop-t
invariant-loop-t g l =
    (places kinds : ℕ → ℕ) → Gives (goal.P-post g l.place) l.turns places → Gives (goal.K-post g l.kind) l.turns kinds → l.out ≡ walked places kinds l.t l.initial.out
