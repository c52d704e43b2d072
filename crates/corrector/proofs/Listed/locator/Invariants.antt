-- `corrector::Listed::locator` meets its contract.
use Prim.Native.Nat.{ℕ}
use mathlib.Core.Path.{◌≡◌}
use Rattle.theory.proofs.Gf.{gf256}
use Rattle.corrector.specs.Lanes.{poly}
use Rattle.corrector.proofs.Rows.{Row}
use Rattle.theory.proofs.Values.{product}
use Rattle.corrector.proofs.Listed.locator.Given as goal

abbrev pub invariant-loop-x : goal.invariant-loop-x
invariant-loop-x l = Row l.r × ((h : ℕ) → poly l.r h ≡ product gf256 (poly l.self.xs) l.x-index h)
