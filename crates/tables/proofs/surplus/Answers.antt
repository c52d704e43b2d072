-- `tables::surplus` meets its contract.
use Rattle.std.proofs.Common.{arith}
use Rattle.std.proofs.lemmas.Bool.Decides.{nat_tests}
use Rattle.tables.specs.Tables.{surplus}
use Rattle.tables.proofs.surplus.Goals as goal

pub returns-in-2-to-6 : goal.returns-in-2-to-6
unfolding surplus
returns-in-2-to-6 c = grind (arith, nat_tests)

pub returns-in_default : goal.returns-in_default
unfolding surplus
returns-in_default c = grind (arith, nat_tests)

pub returns-in_default-2 : goal.returns-in_default-2
unfolding surplus
returns-in_default-2 c = grind (arith, nat_tests)
