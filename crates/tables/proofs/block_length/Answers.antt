-- `tables::block_length` meets its contract: it is under 256.
use native.Mathlib.Omega.{arith}
use Rattle.tables.specs.Tables.{block_length}
use Rattle.tables.proofs.Rules.{block_length_most}
use Rattle.tables.proofs.block_length.Goals as goal

pub overflow_add-result : goal.overflow_add-result
unfolding block_length
overflow_add-result c = rw (c.block_data-d.ensures, c.checks.ensures) (omega (arith, block_length_most c.args.v c.args.level c.args.b c.requires))

pub returns : goal.returns
unfolding block_length
returns c = rw (c.block_data-d.ensures, c.checks.ensures)
