-- `cursor::Cursor::put` meets its contract. The invariant: the bits are the entry's with the first k of the field pasted in.
use mathlib.Core.Path.{◌≡◌}
use Prim.Native.Nat.{◌-◌, ◌≤◌}
use lib.ListN.{length}
use lib.Seq.{paste}
use Rattle.basics.specs.Bits.{bits, byte_bits}
use Rattle.basics.specs.Lists.{AtMost}
use Rattle.cursor.proofs.Cursor.put.Given as goal

abbrev pub invariant-loop-k : goal.invariant-loop-k
invariant-loop-k l = (l.k ≤ l.n) × ((length l.out ≡ length l.initial.out) × (AtMost 255 l.out × (byte_bits l.out ≡ paste (byte_bits l.initial.out) l.at (bits l.n l.value) l.k)))

abbrev pub decreases-loop-k : goal.decreases-loop-k
decreases-loop-k l = l.n - l.k
