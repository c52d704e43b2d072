-- `text::Page::put_segments` meets its contract.
-- Before turn k the first k segments are written with their parts of the payload, and the others are left.
use Prim.Native.Nat.{◌+◌, ◌*◌}
use mathlib.Core.Path.{refl}
use native.Mathlib.Omega.{arith}
use lib.ListN.{drop, length-drop}
use Rattle.text.proofs.Pasting.{start as start_Writing, said, room, more, done}
use Rattle.text.proofs.Turns.{segment_left, no_segment}
use borrow.Author.Rules.{rules}
use Rattle.text.proofs.Page.put_segments.Goals as goal

pub loop-k-init : goal.loop-k-init
loop-k-init c = (start_Writing _ _ _, refl)

pub put_segment-requires : goal.put_segment-requires
put_segment-requires c =
    room _ _ c.requires.1 (said (segment_left _ _ _ _ _ _ c.requires.0 (omega arith) c.from-mode.ensures c.from-count.ensures c.part.ensures) c.loop-k.invariant.0)

pub loop-k-preserved : goal.loop-k-preserved
loop-k-preserved c = (
  more _ _ (said (segment_left _ _ _ _ _ _ c.requires.0 (omega arith) c.from-mode.ensures c.from-count.ensures c.part.ensures) c.loop-k.invariant.0)
      c.put_segment.ensures.pasted,
  search rules,
)

pub returns : goal.returns
returns c = let l = c.loop-k in
    record { pasted = done (said (no_segment (l.k + 1) _ (drop (2 * l.k) _) (rw length-drop (omega arith))) l.invariant.0); same_buffer = l.invariant.1 }
