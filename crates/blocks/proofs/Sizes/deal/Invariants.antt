-- `blocks::Sizes::deal` meets its contract. The invariant: the first k codewords are at their places.
use Rattle.std.proofs.Common.{◌≡◌, ◌+◌, get_or}
use Rattle.basics.specs.Walk.{walked}
use Rattle.blocks.specs.Blocks.{sent_place}
use Rattle.blocks.proofs.Sizes.deal.Given as goal

abbrev pub invariant-loop-k : goal.invariant-loop-k
invariant-loop-k l = l.out ≡ walked (λ j. sent_place l.self.v l.self.level l.b (l.first + j)) (λ j. get_or l.part j 0) l.k l.initial.out
