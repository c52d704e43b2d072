-- `blocks::Sizes::gather` meets its contract. The invariant: the first blocks are gathered, one after the other, and the rest is as it was.
use Rattle.std.proofs.Common.{◌≡◌, ℕ, List, get_or}
use Rattle.blocks.specs.Blocks.{gathered, block_offset}
use Rattle.blocks.proofs.Cuts.{filled}
use Rattle.blocks.proofs.Sizes.gather.Given as goal

pub record Gathered (v level b a : ℕ) (received out₀ out : List ℕ) : Type 0 where
  pub place : a ≡ block_offset v level b
  pub done : out ≡ filled (gathered v level (λ q. get_or received q 0)) out₀ b a

abbrev pub invariant-loop-block : goal.invariant-loop-block
invariant-loop-block l = Gathered l.self.v l.self.level l.block l.a l.received l.initial.out l.out
