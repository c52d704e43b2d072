-- `text::hex_digit` meets its contract.
use borrow.Author.Tests.{lt-ltb, le-ltb}
use Rattle.text.specs.Text.{hex_digit}
use Rattle.text.proofs.hex_digit.Goals as goal

pub returns-then-x-lt10 : goal.returns-then-x-lt10
unfolding hex_digit
returns-then-x-lt10 c = simp (lt-ltb _ _ c.if-x-lt10.true)

pub returns-else-x-lt10 : goal.returns-else-x-lt10
unfolding hex_digit
returns-else-x-lt10 c = simp (le-ltb _ _ c.if-x-lt10.false)
