-- `code::powers` meets its contract: the loop builds the powers from the front.
use mathlib.Core.Path.{◌≡◌}
use Rattle.field.specs.Field.{pow_n}
use Rattle.code.proofs.Lanes.{fill}
use Rattle.code.proofs.powers.Given as goal

abbrev pub invariant-loop-place : goal.invariant-loop-place
invariant-loop-place l = (l.power ≡ pow_n l.place-index) × (l.place-items ≡ fill pow_n 32 l.place-index)
