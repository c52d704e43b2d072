-- All is put but the segments of the pairs that are left.
use Rattle.std.proofs.Common.{◌≡◌, length}
use Rattle.std.specs.Slice.Iter.{chunks_exact_rest, chunks_exact_size}
use Rattle.stream.specs.Stream.{counts, segments}
use Rattle.stream.proofs.Put.{Going}
use Rattle.stream.proofs.BitWriter.put_segments.Given as goal

abbrev pub invariant-loop-pair : goal.invariant-loop-pair
invariant-loop-pair l = record {
  pairs : chunks_exact_size l.pair-iterator ≡ 2;
  long : counts (chunks_exact_rest l.pair-iterator) ≡ length l.left;
  put : Going l.initial.self (segments l.v l.list l.payload) l.self (segments l.v (chunks_exact_rest l.pair-iterator) l.left);
}
