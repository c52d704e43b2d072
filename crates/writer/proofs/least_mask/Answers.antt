-- `writer::least_mask` meets its contract. The invariant: the masks from k on decide, where `least` at `place` leads so far.
use mathlib.Core.Path.{refl, sym, ◌∙◌}
use Prim.Native.Nat.{◌*◌, ◌≤◌}
use native.Mathlib.Omega.{arith}
use lib.ListN.{length}
use Rattle.tables.specs.Tables.{side}
use Rattle.writer.specs.Answer.{least_mask}
use Rattle.writer.proofs.Steps.{leads_less, leads_stays, leads_first, leads_last}
use Rattle.writer.proofs.least_mask.Invariants.{scored}
use Rattle.writer.proofs.least_mask.Goals as goal
use Rattle.writer.proofs.least_mask.Goals.{then-x-least, else-x-least}

pub loop-k-init : goal.loop-k-init
unfolding least_mask
loop-k-init c =
    let u = c.score_under-least in
    let room : side c.args.v * side c.args.v ≤ length u.new.out = rw u.auto.out c.requires.1.1 in
    (omega arith, (refl, (room, (refl, rw u.ensures.0 (leads_first _)))))

pub loop-k-preserved : goal.loop-k-preserved
loop-k-preserved c =
    let a = c.args in
    let l = c.loop-k in
    let u = c.score_under-x in
    let kept = u.auto.out in
    let f = scored a.v a.level a.base.now in (
      omega arith,
      (
        kept ∙ l.invariant.1.0,
        (
          rw kept l.invariant.1.1.0,
          (
            u.ensures.1.rest ∙ l.invariant.1.1.1.0,
            l.invariant.1.1.1.1 ∙ elim c.if-x-least.branch [
              | then-x-least w ↦ rw (w.least-is, w.place-is) (leads_less f l.least l.place l.k u.result (omega arith) u.ensures.0 w.if-x-least.true)
              | else-x-least w ↦ rw (w.least-is, w.place-is) (leads_stays f l.least l.place l.k u.result (omega arith) u.ensures.0 w.if-x-least.false)
            ],
          ),
        ),
      ),
    )

pub returns : goal.returns
returns c =
    let a = c.args in
    let l = c.loop-k in (
      sym (l.invariant.1.1.1.1 ∙ leads_last (scored a.v a.level a.base.now) l.least l.place l.k c.loop-k-test.false),
      record { rest = l.invariant.1.1.1.0 ∙ c.score_under-least.ensures.1.rest },
    )
