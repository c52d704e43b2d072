-- The bytes that are held lie within the buffer, which keeps its length, and are more at each turn.
use Rattle.std.proofs.Common.{◌-◌, ◌<◌, length}
use Rattle.load.proofs.load.Given as goal

abbrev pub invariant-loop-held : goal.invariant-loop-held
invariant-loop-held g l = l.n < length l.buf

abbrev pub decreases-loop-held : goal.decreases-loop-held
decreases-loop-held g l = length l.buf - l.n
