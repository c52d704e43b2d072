-- `parse::fill` meets its contract. The invariant: what stands in the buffers, followed by what the rest of the stream holds, is the message.
use Prim.Native.Nat.{◌-◌, ◌*◌}
use lib.ListN.{length}
use Rattle.parse.proofs.Filling.{Filling}
use Rattle.parse.proofs.fill.Given as goal

abbrev pub invariant-loop-payload : goal.invariant-loop-payload
invariant-loop-payload l = Filling l.codewords l.v l.initial.payload l.initial.list l.payload l.list l.p

abbrev pub decreases-loop-payload : goal.decreases-loop-payload
decreases-loop-payload l = 8 * length l.codewords - l.p.cursor.at
