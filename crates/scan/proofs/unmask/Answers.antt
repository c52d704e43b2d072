-- `scan::unmask` meets its contract.
use borrow.Author.Tests.{eq-eqb, ne_eqb}
use Rattle.scan.specs.Scan.{plain}
use Rattle.scan.proofs.unmask.Goals as goal

pub returns-then-x-eq-UNREADABLE : goal.returns-then-x-eq-UNREADABLE
unfolding plain
returns-then-x-eq-UNREADABLE c = rw (eq-eqb _ 2 c.if-x-eq-UNREADABLE.true)

pub returns-else-x-eq-UNREADABLE : goal.returns-else-x-eq-UNREADABLE
unfolding plain
returns-else-x-eq-UNREADABLE c = rw (ne_eqb _ 2 c.if-x-eq-UNREADABLE.false)
