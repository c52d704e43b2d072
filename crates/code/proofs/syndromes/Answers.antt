-- `code::syndromes` meets its contract: the values behind the first n are overwritten by zeros.
use borrow.Author.Rules.{rules}
use Rattle.field.specs.Field.{pow_n}
use Rattle.code.specs.Code.{value, syndromes_of}
use Rattle.code.proofs.Lanes.{cut_padded}
use Rattle.code.proofs.syndromes.Goals as goal

pub returns : goal.returns
unfolding syndromes_of
returns c = cut_padded (λ i. value (pow_n i) c.args.word.now) c.args.n 32 _ _ c.requires c.values-all.ensures (search rules)
