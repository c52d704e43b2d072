-- `blocks::Sizes::gather_block` meets its contract. The invariant: the first p codewords of the block are gathered.
use Rattle.std.proofs.Common.{◌≡◌, get_or, take}
use Rattle.basics.specs.Build.{build}
use Rattle.blocks.specs.Blocks.{sent_place}
use Rattle.blocks.proofs.Sizes.gather_block.Given as goal

abbrev pub invariant-loop-p : goal.invariant-loop-p
invariant-loop-p l = take l.p l.out ≡ build (λ j. get_or l.received (sent_place l.self.v l.self.level l.b j) 0) l.p
