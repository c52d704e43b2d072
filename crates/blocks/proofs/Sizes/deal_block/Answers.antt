-- `blocks::Sizes::deal_block` meets its contract: the data and then the checks are dealt, which deals the block.
-- The second call finds the output as long as the first did.
use native.Mathlib.Omega.{arith}
use Rattle.tables.specs.Tables.{block_length}
use Rattle.blocks.specs.Blocks.{sent_place}
use Rattle.blocks.proofs.Walks.{dealt_both}
use Rattle.blocks.proofs.Sizes.deal_block.Goals as goal

-- The data is the front of the block,
-- with which it begins.
pub deal-requires-clause-within : goal.deal-requires-clause-within
unfolding block_length
deal-requires-clause-within c = (c.requires.block.0, omega (arith, c.requires.held_len.0))

-- The checks are the rest of it:
-- they begin where the data ends,
-- are as many as each block has,
-- and end with the block.
pub deal-requires-2-clause-within : goal.deal-requires-2-clause-within
unfolding block_length
deal-requires-2-clause-within c = (c.requires.block.0, omega (arith, c.requires.held_len.0, c.requires.held_len.1))

pub returns : goal.returns
returns c =
    let a = c.args in
    dealt_both (sent_place a.self.v a.self.level a.b) a.held.now a.made.now a.out.now _ _ c.deal.ensures c.deal-2.ensures
