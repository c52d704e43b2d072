-- `words::format_word` meets its contract.
use Rattle.std.proofs.Common.{rules, arith}
use Rattle.words.specs.Words.{format_word}
use Rattle.words.proofs.Bits.{format_sum_lt}
use Rattle.words.proofs.format_word.Goals as goal

pub word-requires : goal.word-requires
word-requires c = omega (arith, format_sum_lt c.args.bits c.requires)

pub returns : goal.returns
unfolding format_word
returns c = search rules
