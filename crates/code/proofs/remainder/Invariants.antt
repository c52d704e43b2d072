-- `code::remainder` meets its contract: after each codeword the remainder is that of the codewords that were taken.
use Rattle.std.proofs.Common.{take}
use Rattle.code.proofs.Division.{Remains}
use Rattle.code.proofs.remainder.Given as goal

abbrev pub invariant-loop-codeword : goal.invariant-loop-codeword
invariant-loop-codeword l = Remains l.n (take l.codeword-index l.held) l.r
