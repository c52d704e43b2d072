-- `writer::mask_drawn` meets its contract.
use mathlib.Core.Path.{refl}
use borrow.Author.Tests.{eq-eqb, ne_eqb}
use Rattle.writer.specs.Answer.{mask_drawn}
use Rattle.writer.proofs.mask_drawn.Goals as goal

pub returns-then-mask-eq8 : goal.returns-then-mask-eq8
unfolding mask_drawn
returns-then-mask-eq8 c = (rw (eq-eqb _ _ c.if-mask-eq8.true) c.least_mask.ensures.0, c.least_mask.ensures.1)

pub returns : goal.returns
unfolding mask_drawn
returns c = (rw (ne_eqb _ _ c.if-mask-eq8.false), record { rest = refl })
