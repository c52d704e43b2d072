-- `part::find_span` meets its contract. The invariant: `start` is the sum of the counts passed, and is within the payload.
use Rattle.std.proofs.Common.{◌≡◌, ℕ, List, ◌≤◌, ◌<◌, ◌/◌, ◌%◌, length, take}
use Rattle.std.specs.Simd.{first_chunks}
use Rattle.part.specs.Part.{start_of}
use Rattle.part.proofs.find_span.Given as goal

pub record Passed (list : List ℕ) (items : List (List ℕ)) (n k j start : ℕ) : Type 0 where
  pub even : length list % 2 ≡ 0
  pub has : k < length list / 2
  pub pairs : items ≡ take k (first_chunks 2 (length list / 2) list)
  pub many : length items ≡ k
  pub sum : start ≡ start_of list j
  pub fits : start ≤ n

abbrev pub invariant-loop-count : goal.invariant-loop-count
invariant-loop-count l = Passed l.list l.count-items l.n l.k l.count-index l.start
