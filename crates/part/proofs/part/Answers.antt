-- `part::part` meets its contract: a place ends within the payload.
use Rattle.std.proofs.Common.{◌+◌, ◌≤◌, length, arith}
use native.Mathlib.Nat.{add-sub_cancel_left}
use Rattle.part.specs.Part.{part_of}
use Rattle.part.proofs.Laws.{within}
use Rattle.part.proofs.part.Goals as goal

pub overflow_add-result : goal.overflow_add-result
overflow_add-result c =
    let ends : c.span_of-start.result.start + c.span_of-start.result.len ≤ length c.args.payload.now =
    rw c.span_of-start.ensures (within _ _ _) in
    omega (arith, ends)

pub slice_bounds-result-end : goal.slice_bounds-result-end
slice_bounds-result-end c = rw c.span_of-start.ensures (within _ _ _)

pub returns : goal.returns
unfolding part_of
returns c = rw (add-sub_cancel_left, c.span_of-start.ensures)
