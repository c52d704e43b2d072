-- `penalty::turn` meets its contract. The invariant: the first i columns are copied, one after the other, and the rest is as it was.
use mathlib.Core.Path.{◌≡◌, ap, ◌∙◌}
use Prim.Native.Nat.{ℕ, ◌+◌, ◌*◌, ◌<◌, ◌≤◌}
use native.Mathlib.Nat.{mul-le-mul, zero-mul}
use native.Mathlib.Omega.{arith}
use lib.ListN.{length}
use Rattle.basics.specs.Lists.{joined}
use Rattle.basics.proofs.Parts.{length_part}
use Rattle.penalty.specs.Lines.{line, lines_from, turned}
use Rattle.penalty.proofs.Lines.{reach}
use Rattle.penalty.proofs.Turned.{turn_more}
use Rattle.penalty.proofs.turn.Goals as goal

-- row i is inside
inside : (i s : ℕ) → i < s → s ≤ 64 → (i * s + s ≤ s * s) × (s * s ≤ 4096)
inside i s h l = (reach i s s h, mul-le-mul l l)

pub loop-i-init : goal.loop-i-init
unfolding joined lines_from
loop-i-init c = rw zero-mul

pub loop-i-preserved : goal.loop-i-preserved
loop-i-preserved c = let a = c.args in
    let l = c.loop-i in
    let ys = c.copy_line.new.out in
    let h : l.i * a.s + a.s ≤ length l.out = omega (arith, inside l.i a.s (omega arith) (omega arith)) in
    let e : ys ≡ line a.m.now l.i a.s a.s = c.copy_line.ensures ∙ ap (line a.m.now l.i a.s) (length_part l.out (l.i * a.s) a.s h) in
    turn_more a.m.now l.out a.out.now ys a.s l.i l.invariant e

pub returns : goal.returns
unfolding turned
returns c = let e : c.loop-i.i ≡ c.args.s = omega arith in rw e at c.loop-i.invariant
