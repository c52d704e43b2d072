-- `code::generator` meets its contract: after i turns the generator for i checks stands in the array.
use mathlib.Core.Path.{refl}
use native.Mathlib.Numerals.{add-one}
use borrow.Author.Rules.{rules}
use Rattle.field.specs.Field.{pow_n}
use Rattle.code.proofs.Division.{generator_none, generator_more}
use Rattle.code.proofs.generator.Goals as goal

pub loop-init : goal.loop-init
unfolding pow_n
loop-init c = (refl, generator_none)

pub loop-preserved : goal.loop-preserved
unfolding pow_n
loop-preserved c = let l = c.loop in
    (rw (add-one, c.dbl-root.ensures, l.invariant.0), generator_more l.counter l.root l.g _ (search rules) l.invariant.0 l.invariant.1 c.times_root-g.ensures)
