-- `tables::count_width` meets its contract: it takes the definition's cases in their order.
use Rattle.std.proofs.Common.{arith}
use Rattle.std.proofs.lemmas.Bool.Decides.{nat_tests}
use Rattle.tables.specs.Tables.{count_width}
use Rattle.tables.proofs.count_width.Goals as goal

pub returns-then-v-le9 : goal.returns-then-v-le9
unfolding count_width
returns-then-v-le9 c = grind (arith, nat_tests)

pub returns-else-v-le9 : goal.returns-else-v-le9
unfolding count_width
returns-else-v-le9 c = grind (arith, nat_tests)

pub returns-then-v-le9-2 : goal.returns-then-v-le9-2
unfolding count_width
returns-then-v-le9-2 c = grind (arith, nat_tests)

pub returns-else-v-le9-2 : goal.returns-else-v-le9-2
unfolding count_width
returns-else-v-le9-2 c = grind (arith, nat_tests)

pub returns-then-v-le9-3 : goal.returns-then-v-le9-3
unfolding count_width
returns-then-v-le9-3 c = grind (arith, nat_tests)

pub returns-else-v-le9-3 : goal.returns-else-v-le9-3
unfolding count_width
returns-else-v-le9-3 c = grind (arith, nat_tests)

pub returns-in_default : goal.returns-in_default
unfolding count_width
returns-in_default c = grind (arith, nat_tests)
