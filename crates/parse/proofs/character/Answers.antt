-- `parse::character` meets its contract: the table is the alphabet.
use mathlib.Core.Path.{refl}
use Rattle.stream.specs.Stream.{character, alphabet}
use Rattle.parse.proofs.character.Goals as goal

pub returns : goal.returns
unfolding character alphabet
returns c = refl
