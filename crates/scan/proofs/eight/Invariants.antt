-- `scan::eight` meets its contract. The loop's invariant: the number of the modules passed, and whether all could be read.
use Rattle.std.proofs.Common.{◌≡◌, ◌+◌, ◌*◌, ◌≤◌, ◌^◌, eqb, take}
use mathlib.Core.Bool.{not}
use Rattle.basics.specs.Bits.{number}
use Rattle.basics.specs.Lists.{any}
use Rattle.scan.proofs.eight.Given as goal

abbrev pub invariant-loop-b : goal.invariant-loop-b
invariant-loop-b l =
    (l.x + 2 ≤ 2 * 2 ^ l.b-index) × (l.x ≡ number (take l.b-index l.bits)) × (l.readable ≡ not (any (eqb 2) (take l.b-index l.bits)))
