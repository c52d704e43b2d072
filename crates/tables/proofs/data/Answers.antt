-- `tables::data` meets its contract, by the rules of the table.
use native.Mathlib.Omega.{arith}
use Rattle.tables.specs.Tables.{data_count}
use Rattle.tables.proofs.Rules.{checks_fit, total_most}
use Rattle.tables.proofs.data.Goals as goal

pub overflow_mul-result : goal.overflow_mul-result
overflow_mul-result c = rw (c.checks-n.ensures, c.blocks-b.ensures)
    (omega (arith, checks_fit c.args.v c.args.level c.requires, total_most c.args.v c.requires.least c.requires.most))

pub overflow_sub-result : goal.overflow_sub-result
overflow_sub-result c = rw (c.checks-n.ensures, c.blocks-b.ensures, c.total.ensures)
    (omega (arith, checks_fit c.args.v c.args.level c.requires))

pub returns : goal.returns
unfolding data_count
returns c = rw (c.checks-n.ensures, c.blocks-b.ensures, c.total.ensures)
