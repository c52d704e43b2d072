-- `code::generator` meets its contract: after i turns the generator for i checks stands in the array.
use mathlib.Core.Path.{◌≡◌}
use Rattle.field.specs.Field.{pow_n}
use Rattle.code.specs.Code.{generator}
use Rattle.code.specs.Lanes.{padded}
use Rattle.code.proofs.generator.Given as goal

abbrev pub invariant-loop : goal.invariant-loop
invariant-loop l = (l.root ≡ pow_n l.counter) × (l.g ≡ padded 33 (generator l.counter))
