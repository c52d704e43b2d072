-- `code::remainder` meets its contract: after each codeword the remainder is that of the codewords that were taken.
use native.Mathlib.Omega.{arith}
use borrow.Author.Rules.{rules}
use Rattle.code.proofs.Division.{remains_none, remains_more, remains_all, zeros_all}
use Rattle.code.proofs.remainder.Goals as goal

pub loop-codeword-init : goal.loop-codeword-init
loop-codeword-init c = remains_none _

pub loop-codeword-preserved : goal.loop-codeword-preserved
loop-codeword-preserved c = let l = c.loop-codeword in
    remains_more _ _ _ l.r _ l.codeword-index (search rules) (search rules) c.generator-g.ensures c.reduce-next.ensures l.invariant

pub returns : goal.returns
returns c = let l = c.loop-codeword in
    record {
      front = remains_all _ _ l.r l.codeword-index (omega arith) (omega arith) l.invariant;
      behind = zeros_all _ l.r l.invariant.long l.invariant.zeros;
    }
