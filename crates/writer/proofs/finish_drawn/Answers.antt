-- `writer::finish_drawn` meets its contract.
use Rattle.writer.proofs.Steps.{mask_small}
use Rattle.writer.proofs.finish_drawn.Goals as goal

pub finish-requires : goal.finish-requires
finish-requires c =
    let p = c.requires in
    let u = c.mask_drawn-drawn in
    (p.0, (rw u.ensures.0 (mask_small _ _ _ _ p.1.1.0), (p.1.0.long, (p.1.0.kinds, rw u.auto.out p.1.1.1))))
