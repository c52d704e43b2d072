-- `corrector::Block::erased` meets its contract.
use Rattle.std.proofs.Common.{◌≡◌, ◌-◌, length, arith, rules}
use Rattle.std.proofs.lemmas.Iterator.Adapters.{YieldsList-from_rev_slice}
use Rattle.std.proofs.lemmas.List.{length_push}
use Rattle.theory.proofs.Places.{erase_all}
use Rattle.corrector.specs.Places.{picked}
use Rattle.corrector.proofs.Backwards.{back_turn, back_end}
use Rattle.corrector.proofs.Erasing.{erasing_start, erasing_turn, power_start}
use Rattle.corrector.proofs.Rows.{row}
use Rattle.corrector.proofs.Block.erased.Goals as goal

pub loop-flag-init : goal.loop-flag-init
loop-flag-init c = (row c.args.s (search rules) (λ h. search rules), power_start, erasing_start c.args.self.flags.now c.args.s)

pub loop-flag-preserved : goal.loop-flag-preserved
loop-flag-preserved c = let l = c.loop-flag in
    let flags = c.args.self.flags.now in
    let here = back_turn flags (YieldsList-from_rev_slice flags cc) l.yielded _ l.yielded_by _ _ c.in-Some.flag c.in-Some.is c.next.ensures.steps in
    let turn = erasing_turn flags c.args.s l.r l.x (length l.yielded) c.in-Some.flag.now c.without-next.result c.dbl-x.result here.0 here.1 l.invariant.0 l.invariant.1 c.without-next.ensures c.dbl-x.ensures l.invariant.2 in
    rw (length_push l.yielded c.in-Some.flag) (row c.without-next.result (search rules) (λ h. search rules), turn.0, turn.1)

pub returns : goal.returns
unfolding erase_all picked
returns c = let l = c.loop-flag in
    let flags = c.args.self.flags.now in
    let end = back_end flags (YieldsList-from_rev_slice flags cc) l.yielded _ l.yielded_by _ _ c.in-None.is c.next.ensures.steps in
    let z : length flags - length l.yielded ≡ 0 = omega arith in
    record { row = l.invariant.0.long; each = rw z at l.invariant.2 }
