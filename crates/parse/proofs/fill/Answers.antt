-- `parse::fill` meets its contract. The invariant: what stands in the buffers, followed by what the rest of the stream holds, is the message.
use mathlib.Core.Path.{sym, ◌∙◌}
use Rattle.std.proofs.lemmas.Result.{err_from_is_err_and}
use Rattle.parse.proofs.Filling.{filling_none, filling_refused, filling_end, filling_less, filling_more}
use Rattle.parse.proofs.fill.Goals as goal

pub loop-payload-init : goal.loop-payload-init
loop-payload-init c = filling_none _ _ _ _

pub returns-in_err-p : goal.returns-in_err-p
returns-in_err-p c =
    let p = err_from_is_err_and c.from_residual.result c.from_residual.ensures.1 in
    rw (p.1, p.2) (filling_refused _ _ _ _ _ _ _ c.loop-payload.invariant _ (sym c.ends.ensures ∙ c.loop-payload-test.true) c.in_err-p.ensures)

pub loop-payload-smaller : goal.loop-payload-smaller
loop-payload-smaller c =
    filling_less _ _ _ _ _ _ _ c.loop-payload.invariant (sym c.ends.ensures ∙ c.loop-payload-test.true) _ _ _ c.in_ok-p.ensures

pub loop-payload-preserved : goal.loop-payload-preserved
loop-payload-preserved c =
    filling_more _ _ _ _ _ _ _ c.loop-payload.invariant (sym c.ends.ensures ∙ c.loop-payload-test.true) _ _ _ c.in_ok-p.ensures
    c.next_segment.auto.payload c.next_segment.auto.list

pub returns : goal.returns
returns c = filling_end _ _ _ _ _ _ _ c.loop-payload.invariant c.requires.0 (sym c.ends.ensures ∙ c.loop-payload-test.false)
