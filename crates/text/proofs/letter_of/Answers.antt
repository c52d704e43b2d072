-- `text::letter_of` meets its contract: level 3 is the one that is left.
use mathlib.Core.Path.{◌≡◌}
use borrow.Author.Rules.{rules}
use native.Mathlib.Omega.{arith}
use Rattle.text.specs.Text.{letter}
use Rattle.text.proofs.letter_of.Goals as goal

pub returns-in-0 : goal.returns-in-0
unfolding letter
returns-in-0 c = search rules

pub returns-in-1 : goal.returns-in-1
unfolding letter
returns-in-1 c = search rules

pub returns-in-2 : goal.returns-in-2
unfolding letter
returns-in-2 c = search rules

pub returns-in_default : goal.returns-in_default
unfolding letter
returns-in_default c = let e : c.args.level ≡ 3 = omega arith in rw e
