-- `text::Page::put_digits` meets its contract: the digits before the last, by itself with one digit less, and then the last.
use Prim.Native.Nat.{◌-◌, ◌/◌}
use native.Mathlib.Omega.{arith}
use Rattle.text.specs.Text.{decimal}
use Rattle.text.proofs.Pasting.{nothing, then, room_first, room_next}
use Rattle.text.proofs.Decimal.{none, last, front}
use borrow.Author.Rules.{rules}
use Rattle.text.proofs.Page.+put_digits.Goals as goal
use Rattle.text.proofs.Page.+put_digits.Goals.{then-x-ge10, else-x-ge10}

pub returns-then-n-eq0 : goal.returns-then-n-eq0
returns-then-n-eq0 t c = record { pasted = rw (none c.args.n c.args.x c.if-n-eq0.true) (nothing _ _); same_buffer = search rules }

pub put_digits-requires : goal.put_digits-requires
put_digits-requires t c =
    let e = front c.args.n c.args.x c.if-n-eq0.false (omega arith) in
    (omega arith, room_first (decimal (c.args.n - 1) (c.args.x / 10)) _ (rw e at c.requires))

pub put_byte-requires : goal.put_byte-requires
put_byte-requires t c =
    elim c.if-x-ge10.branch [
      | then-x-ge10 w ↦ let e = front c.args.n c.args.x c.if-n-eq0.false w.if-x-ge10.true in
          rw w.self-is (room_next _ (rw e at c.requires) w.put_digits.ensures.pasted)
      | else-x-ge10 w ↦ let e = last c.args.n c.args.x c.if-n-eq0.false w.if-x-ge10.false in
          rw w.self-is (rw e at c.requires)
    ]

pub returns : goal.returns
returns t c =
    elim c.if-x-ge10.branch [
      | then-x-ge10 w ↦ let e = front c.args.n c.args.x c.if-n-eq0.false w.if-x-ge10.true in
          record { pasted = rw e (then w.put_digits.ensures.pasted (rw w.self-is at c.put_byte.ensures.pasted)); same_buffer = cc }
      | else-x-ge10 w ↦ let e = last c.args.n c.args.x c.if-n-eq0.false w.if-x-ge10.false in
          record { pasted = rw e (rw w.self-is at c.put_byte.ensures.pasted); same_buffer = cc }
    ]
