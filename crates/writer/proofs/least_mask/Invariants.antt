-- `writer::least_mask` meets its contract. The invariant: the masks from k on decide, where `least` at `place` leads so far.
use mathlib.Core.Path.{◌≡◌}
use mathlib.Core.List.{List, map}
use Prim.Native.Nat.{ℕ, ◌-◌, ◌*◌, ◌≤◌}
use lib.ListN.{length, drop}
use Rattle.basics.specs.Lists.{from}
use Rattle.tables.specs.Tables.{side}
use Rattle.modules.specs.Kinds.{finished}
use Rattle.penalty.specs.Penalty.{score, least_after}
use Rattle.writer.specs.Answer.{least_mask}
use Rattle.writer.proofs.least_mask.Given as goal

-- the score under each mask
abbrev pub scored : (v level : ℕ) (base : List ℕ) → ℕ → ℕ
scored v level base k = score (side v) (finished v level k base)

abbrev pub invariant-loop-k : goal.invariant-loop-k
invariant-loop-k l = (l.k ≤ 8)
    × ((length l.out ≡ length l.initial.out) × ((side l.v * side l.v ≤ length l.out) × ((drop (side l.v * side l.v) l.out ≡ drop (side l.v * side l.v) l.initial.out)
    × (least_mask l.v l.level l.base ≡ least_after l.least l.place l.k (map (scored l.v l.level l.base) (from l.k (8 - l.k)))))))

abbrev pub decreases-loop-k : goal.decreases-loop-k
decreases-loop-k l = 8 - l.k
