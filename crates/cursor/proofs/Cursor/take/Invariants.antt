-- `cursor::Cursor::take` meets its contract.
-- The invariant: v is the field of the k bits passed.
use mathlib.Core.Path.{◌≡◌}
use Prim.Native.Nat.{◌-◌, ◌≤◌}
use Rattle.cursor.specs.Cursor.{field}
use Rattle.cursor.proofs.Cursor.take.Given as goal

abbrev pub invariant-loop-k : goal.invariant-loop-k
invariant-loop-k l = (l.k ≤ l.n) × (l.v ≡ field l.bytes l.at l.k)

abbrev pub decreases-loop-k : goal.decreases-loop-k
decreases-loop-k l = l.n - l.k
