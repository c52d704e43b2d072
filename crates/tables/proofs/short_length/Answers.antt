-- `tables::short_length` meets its contract: there is a block.
use Rattle.tables.specs.Tables.{short_length}
use Rattle.tables.proofs.Rules.{blocks_least}
use Rattle.tables.proofs.short_length.Goals as goal

pub nonzero_div-result : goal.nonzero_div-result
nonzero_div-result c = rw c.blocks-b.ensures (blocks_least c.args.v c.args.level c.requires)

pub returns : goal.returns
unfolding short_length
returns c = rw (c.blocks-b.ensures, c.«data».ensures)
