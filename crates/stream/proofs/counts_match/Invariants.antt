-- The sum is at most the length, and with the counts that are left it is the whole sum.
use Rattle.std.proofs.Common.{◌≡◌, ◌+◌, ◌≤◌}
use Rattle.std.specs.Slice.Iter.{chunks_exact_rest, chunks_exact_size}
use Rattle.stream.specs.Stream.{counts}
use Rattle.stream.proofs.counts_match.Given as goal

abbrev pub invariant-loop-pair : goal.invariant-loop-pair
invariant-loop-pair l = record {
  pairs : chunks_exact_size l.pair-iterator ≡ 2;
  within : l.sum ≤ l.len;
  whole : l.sum + counts (chunks_exact_rest l.pair-iterator) ≡ counts l.list;
}
