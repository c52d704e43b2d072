-- The sum is at most the data bits, and with the widths that are left it is the whole width.
use Rattle.std.proofs.Common.{◌≡◌, ◌+◌, ◌≤◌}
use Rattle.std.specs.Slice.Iter.{chunks_exact_rest, chunks_exact_size}
use Rattle.stream.specs.Stream.{segments_width}
use Rattle.stream.proofs.fits.Given as goal

abbrev pub invariant-loop-pair : goal.invariant-loop-pair
invariant-loop-pair l = record {
  pairs : chunks_exact_size l.pair-iterator ≡ 2;
  within : l.sum ≤ l.most;
  whole : l.sum + segments_width l.v (chunks_exact_rest l.pair-iterator) ≡ segments_width l.v l.list;
}
