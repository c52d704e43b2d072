-- `cursor::Cursor::put` meets its contract. The invariant: the bits are the entry's with the first k of the field pasted in.
use mathlib.Core.Path.{◌≡◌, refl, ap, ◌∙◌}
use Prim.Native.Nat.{◌+◌, ◌-◌, ◌%◌}
use native.Mathlib.Omega.{arith}
use lib.ListN.{length-set}
use lib.Seq.{paste}
use Rattle.basics.specs.Bits.{bits}
use Rattle.cursor.proofs.Bits.{at_most_set}
use Rattle.cursor.proofs.Fields.{put_all}
use Rattle.cursor.proofs.Parts.{put_part}
use Rattle.cursor.proofs.Cursor.put.Goals as goal

pub loop-k-preserved : goal.loop-k-preserved
loop-k-preserved c = let l = c.loop-k in
    let a = c.args in
    let m = c.min-m.result in (
      omega arith,
      (
        simp length-set l.invariant.1.0,
        (
          at_most_set 255 l.out _ _ l.invariant.1.1.0 (omega arith),
          put_part _ l.out a.self.at a.n a.value l.k m _ (8 - (8 - (a.self.at + l.k) % 8 - m) - m) (8 - (8 - (a.self.at + l.k) % 8 - m)) (omega arith) (omega arith) l.invariant.1.0 (omega arith) (omega arith) l.invariant.1.1.1 (omega arith) (omega arith) c.with_part.ensures,
        ),
      ),
    )

pub returns : goal.returns
returns c = let l = c.loop-k in
    let a = c.args in
    let e : l.k ≡ a.n = omega arith in
    (refl, put_all _ l.out a.self.at a.n a.value (omega arith) l.invariant.1.0 l.invariant.1.1.0 (l.invariant.1.1.1 ∙ ap (paste _ a.self.at (bits a.n a.value)) e))
