-- `tables::centre_count` meets its contract: one test at each version.
use Rattle.std.proofs.Common.{◌≡◌, ℕ, ◌≤◌, arith, length, cond}
use lib.Dec.{T, leb}
use Rattle.std.proofs.lemmas.Bool.Decides.{nat_tests}
use Rattle.basics.proofs.Test.{same, same_1}
use Rattle.tables.specs.Tables.{centre_rows, centres}
use Rattle.tables.proofs.centre_count.Goals as goal

tested : T (same 11 (λ v. length (centres v)) (λ v. cond (leb v 1) 0 (cond (leb v 6) 2 3)))
unfolding centres centre_rows
tested = tt

counted : (v : ℕ) → v ≤ 10 → length (centres v) ≡ cond (leb v 1) 0 (cond (leb v 6) 2 3)
counted v h = same_1 11 (λ v. length (centres v)) (λ v. cond (leb v 1) 0 (cond (leb v 6) 2 3)) tested v (omega arith)

pub returns-in-0-to-1 : goal.returns-in-0-to-1
returns-in-0-to-1 c = grind (arith, nat_tests, counted)

pub returns-in-2-to-6 : goal.returns-in-2-to-6
returns-in-2-to-6 c = grind (arith, nat_tests, counted)

pub returns-in_default : goal.returns-in_default
returns-in_default c = grind (arith, nat_tests, counted)
