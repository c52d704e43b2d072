-- `blocks::Sizes::take_data` meets its contract. The invariant: the data of the first b blocks is copied, and the rest is as it was.
use Rattle.std.proofs.Common.{◌≡◌, take}
use Rattle.tables.specs.Tables.{block_data, block_start}
use Rattle.blocks.specs.Blocks.{block_of}
use Rattle.blocks.proofs.Cuts.{filled}
use Rattle.blocks.proofs.Sizes.take_data.Given as goal

abbrev pub invariant-loop-b : goal.invariant-loop-b
invariant-loop-b l =
    let v = l.self.v in
    let level = l.self.level in
    l.out ≡ filled (λ j. take (block_data v level j) (block_of v level l.blocks j)) l.initial.out l.b (block_start v level l.b)
