-- A front of 26 bytes is 26 long.
use Rattle.std.proofs.Common.{arith, sym, length-take-le}
use Rattle.corrector_try.proofs.nearer.Goals as goal

pub slice_bounds-answer-end : goal.slice_bounds-answer-end
slice_bounds-answer-end g c = sym (length-take-le 26 c.between-word.result (omega arith))

pub slice_bounds-answer-end-3 : goal.slice_bounds-answer-end-3
slice_bounds-answer-end-3 g c = sym (length-take-le 26 c.codeword-second.result (omega arith))

pub answer-requires : goal.answer-requires
answer-requires g c =
    let w = length-take-le 26 c.between-word.result (omega arith) in
    (sym w, omega (arith, w), omega arith, omega arith)
