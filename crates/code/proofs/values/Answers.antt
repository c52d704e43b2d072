-- `code::values` meets its contract: after each codeword the values are those of the codewords that were read.
use borrow.Author.Rules.{rules}
use Rattle.code.proofs.Value.{values_none, values_more}
use Rattle.code.proofs.values.Goals as goal

pub loop-codeword-init : goal.loop-codeword-init
loop-codeword-init c = values_none

pub loop-codeword-preserved : goal.loop-codeword-preserved
loop-codeword-preserved c = let l = c.loop-codeword in
    values_more _ l.s _ _ l.codeword-index (search rules) l.invariant c.powers-p.ensures c.horner-next.ensures
