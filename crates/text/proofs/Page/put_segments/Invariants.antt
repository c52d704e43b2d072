-- `text::Page::put_segments` meets its contract.
-- Before turn k the first k segments are written with their parts of the payload, and the others are left.
use Prim.Native.Nat.{◌+◌, ◌*◌}
use lib.ListN.{drop}
use Rattle.part.specs.Part.{start_of}
use mathlib.Core.Path.{◌≡◌}
use Rattle.text.specs.Text.{segment_lines}
use Rattle.text.proofs.Pasting.{Progress}
use Rattle.text.proofs.Page.put_segments.Given as goal

abbrev pub invariant-loop-k : goal.invariant-loop-k
invariant-loop-k l = Progress l.initial.self.out.now l.initial.self.at (segment_lines 1 l.payload l.list) l.self.out.now l.self.at (segment_lines (l.k + 1) (drop (start_of l.list l.k) l.payload) (drop (2 * l.k) l.list))
    × (l.self.out.ghost_name ≡ l.initial.self.out.ghost_name)
