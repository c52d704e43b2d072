-- `words::version_word` meets its contract.
use Rattle.std.proofs.Common.{rules}
use Rattle.words.specs.Words.{version_word}
use Rattle.words.proofs.Bits.{version_word_lt}
use Rattle.words.proofs.version_word.Goals as goal

pub word-requires : goal.word-requires
unfolding version_word
word-requires c = version_word_lt c.args.v c.requires

pub returns : goal.returns
unfolding version_word
returns c = search rules
