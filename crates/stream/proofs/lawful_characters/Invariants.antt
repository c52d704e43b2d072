-- The payload is lawful if what is left of it is, for the pairs that are left; and their counts sum to its length.
use Rattle.std.proofs.Common.{◌≡◌, length}
use Rattle.std.specs.Slice.Iter.{chunks_exact_rest, chunks_exact_size}
use Rattle.stream.specs.Stream.{counts, lawful_characters}
use Rattle.stream.proofs.lawful_characters.Given as goal

abbrev pub invariant-loop-pair : goal.invariant-loop-pair
invariant-loop-pair l = record {
  pairs : chunks_exact_size l.pair-iterator ≡ 2;
  long : counts (chunks_exact_rest l.pair-iterator) ≡ length l.left;
  same : lawful_characters l.list l.payload ≡ lawful_characters (chunks_exact_rest l.pair-iterator) l.left;
}
