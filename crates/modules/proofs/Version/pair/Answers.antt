-- `modules::Version::pair` meets its contract: the invariant: 2t modules of the pair are met.
use mathlib.Core.Path.{◌≡◌}
use Prim.Native.Nat.{suc, ◌+◌, ◌*◌}
use native.Mathlib.Omega.{arith}
use Rattle.modules.proofs.Filling.{put_more, few_used, first_place, second_place}
use Rattle.modules.proofs.Version.pair.Goals as goal

pub put-used-requires : goal.put-used-requires
put-used-requires c =
    let l = c.loop-t in
    let in_matrix = rw c.side-s.ensures at c.place-p.ensures.1 in
    let few = few_used _ _ (2 * l.t) _ _ _ _ l.invariant in
    (omega (arith, in_matrix), omega (arith, few, c.side-s.ensures))

pub put-used-requires-in-loop-t : goal.put-used-requires-in-loop-t
put-used-requires-in-loop-t c =
    let l = c.loop-t in
    let in_matrix = rw c.side-s.ensures at c.place-p.ensures.1 in
    let first =
    first_place c.args.self.v c.args.q l.t _ _ _ _ c.side-s.ensures (omega arith)
    c.pair_row.ensures.0 c.pair_column-right.ensures.0 c.place-p.ensures.0 in
    let one = put_more _ _ _ _ _ (2 * l.t) _ l.invariant first c.put-used.ensures in
    (omega (arith, in_matrix), omega (arith, few_used _ _ (suc (2 * l.t)) _ _ _ _ one, c.side-s.ensures))

pub loop-t-preserved : goal.loop-t-preserved
loop-t-preserved c =
    let l = c.loop-t in
    let first =
    first_place c.args.self.v c.args.q l.t _ _ _ _ c.side-s.ensures (omega arith)
    c.pair_row.ensures.0 c.pair_column-right.ensures.0 c.place-p.ensures.0 in
    let second =
    second_place c.args.self.v c.args.q l.t _ _ _ _ c.side-s.ensures (omega arith)
    c.pair_row.ensures.0 c.pair_column-right.ensures.0 c.place-p.ensures.0 c.pair_column-right.ensures.1.0 in
    let one = put_more _ _ _ _ _ (2 * l.t) _ l.invariant first c.put-used.ensures in
    let two = put_more _ _ _ _ _ (suc (2 * l.t)) _ one second c.put-used-in-loop-t.ensures in
    let count : suc (suc (2 * l.t)) ≡ 2 * (l.t + 1) = omega arith in
    rw count at two
