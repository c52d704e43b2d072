-- `blocks::Sizes::deal_blocks` meets its contract. The invariant: the first b blocks are at their places.
use Rattle.std.proofs.Common.{take}
use Rattle.tables.specs.Tables.{data_count}
use Rattle.blocks.proofs.Sent.{Sent}
use Rattle.blocks.proofs.Sizes.deal_blocks.Given as goal

abbrev pub invariant-loop-b : goal.invariant-loop-b
invariant-loop-b l = Sent l.self.v l.self.level (take (data_count l.self.v l.self.level) l.words) l.out l.b
