-- The first k bytes behind the front are the first k pads.
use Rattle.std.proofs.Common.{◌≡◌, ◌-◌, length, take}
use Rattle.stream.specs.Stream.{pads}
use Rattle.stream.proofs.put_pads.Given as goal

abbrev pub invariant-loop-k : goal.invariant-loop-k
invariant-loop-k l = take l.k l.byte-items ≡ take l.k (pads (length l.fn.out - l.front))
