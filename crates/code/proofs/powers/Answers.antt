-- `code::powers` meets its contract: the loop builds the powers from the front.
use mathlib.Core.Path.{refl}
use native.Mathlib.Numerals.{add-one}
use native.Mathlib.Omega.{arith}
use borrow.Author.Rules.{rules}
use Rattle.field.specs.Field.{pow_n}
use Rattle.code.proofs.Lanes.{fill_none, fill_more, fill_all}
use Rattle.code.proofs.powers.Goals as goal

pub loop-place-init : goal.loop-place-init
unfolding pow_n
loop-place-init c = (refl, fill_none pow_n 32)

pub loop-place-preserved : goal.loop-place-preserved
unfolding pow_n
loop-place-preserved c = let l = c.loop-place in
    (rw (add-one, c.dbl-power.ensures, l.invariant.0), fill_more pow_n 32 l.place-index _ l.place-items l.invariant.1 (search rules) l.invariant.0)

pub returns : goal.returns
returns c = let l = c.loop-place in
    fill_all pow_n 32 l.place-index l.place-items l.invariant.1 (omega arith)
