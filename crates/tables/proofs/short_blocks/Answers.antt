-- `tables::short_blocks` meets its contract: there is a block.
use native.Mathlib.Nat.{mod-lt, le_of_lt}
use Rattle.tables.specs.Tables.{short_blocks}
use Rattle.tables.proofs.Rules.{blocks_least}
use Rattle.tables.proofs.short_blocks.Goals as goal

pub nonzero_rem-result : goal.nonzero_rem-result
nonzero_rem-result c = rw c.blocks-b.ensures (blocks_least c.args.v c.args.level c.requires)

pub overflow_sub-result : goal.overflow_sub-result
overflow_sub-result c = rw c.blocks-b.ensures (le_of_lt (mod-lt c.«data».result (blocks_least c.args.v c.args.level c.requires)))

pub returns : goal.returns
unfolding short_blocks
returns c = rw (c.blocks-b.ensures, c.«data».ensures)
