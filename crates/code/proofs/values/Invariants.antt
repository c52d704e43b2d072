-- `code::values` meets its contract: after each codeword the values are those of the codewords that were read.
use Rattle.std.proofs.Common.{◌≡◌, take}
use Rattle.basics.specs.Build.{build}
use Rattle.field.specs.Field.{pow_n}
use Rattle.code.specs.Code.{value}
use Rattle.code.proofs.values.Given as goal

abbrev pub invariant-loop-codeword : goal.invariant-loop-codeword
invariant-loop-codeword l = l.s ≡ build (λ i. value (pow_n i) (take l.codeword-index l.word)) 32
