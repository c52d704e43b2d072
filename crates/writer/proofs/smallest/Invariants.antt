-- `writer::smallest` meets its contract. The invariant: no version before v fits.
use Rattle.std.proofs.Common.{◌≡◌, ◌<◌, ◌≤◌, ℕ, false}
use Rattle.stream.specs.Stream.{fits}
use Rattle.writer.proofs.smallest.Given as goal

abbrev pub invariant-loop-v : goal.invariant-loop-v
invariant-loop-v l = (k : ℕ) → 1 ≤ k → k < l.v → fits k l.level l.list ≡ false
