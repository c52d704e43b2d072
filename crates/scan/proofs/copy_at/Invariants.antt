-- `scan::copy_at` meets its contract. The loop's invariant: the bits from b up are read.
use Rattle.std.proofs.Common.{◌≡◌, ◌<◌, ◌-◌, ◌^◌, ℕ, List, length, get_or, drop}
use Rattle.modules.specs.Kinds.{Gives}
use Rattle.scan.specs.Scan.{CopyRead}
use Rattle.scan.proofs.copy_at.Given as goal

abbrev pub invariant-loop-b : goal.invariant-loop-b
invariant-loop-b g l =
    (l.copy.bits < 2 ^ (l.bits - l.b)) × (l.copy.readable < 2 ^ (l.bits - l.b))
    × ((places : List ℕ) → length places ≡ l.bits → Gives (goal.P-post g l.place) l.bits (λ b. get_or places b 0) → CopyRead l.m (drop l.b places) l.copy)
