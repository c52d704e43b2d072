-- A stream put piece by piece from its front: what is put so far, with the rest put after it, is the whole put at the start.
-- Each turn of a loop takes one piece off the front of the rest; at the end no rest is left.
use mathlib.Core.Path.{◌≡◌, refl, sym, ap, ◌∙◌}
use mathlib.Core.List.{List, [], ◌++◌}
use Prim.Native.Nat.{ℕ, ◌+◌}
use native.Mathlib.Omega.{arith}
use lib.ListN.{length, length-append}
use Rattle.basics.specs.Lists.{AtMost}
use Rattle.cursor.specs.Cursor.{with_bits}
use Rattle.cursor.proofs.Fields.{with_bits_length, with_bits_bytes, with_bits_none, with_bits_more}
use Rattle.stream.specs.BitWriter.{HasRoom, Puts}
use Rattle.stream.specs.declared.BitWriter.{BitWriter}

-- from the start on all is put but the rest
pub record Going (start : BitWriter) (all : List ℕ) (now : BitWriter) (rest : List ℕ) : Type 0 where
  pub same : length now.out.now ≡ length start.out.now
  pub small : AtMost 255 now.out.now
  pub place : now.cursor.at + length rest ≡ start.cursor.at + length all
  pub held : with_bits now.out.now now.cursor.at rest ≡ with_bits start.out.now start.cursor.at all
  pub same_buffer : now.out.ghost_name ≡ start.out.ghost_name

pub going_start : {start : BitWriter} {all : List ℕ} → HasRoom start all → Going start all start all
going_start room = record { same = refl; small = room.bytes; place = refl; held = refl; same_buffer = refl }

module _ {start : BitWriter} {all : List ℕ} {now : BitWriter} {rest : List ℕ} (g : Going start all now rest) where
  -- a piece at the front of the rest has room, and once it is put the pieces behind it are left
  module _ (room : HasRoom start all) (xs more : List ℕ) (e : rest ≡ xs ++ more) where
    long : now.cursor.at + (length xs + length more) ≡ start.cursor.at + length all
    long = rw (← length-append xs more, ← e) g.place

    pub piece_room : HasRoom now xs
    piece_room = record { bytes = g.small; few = rw g.same room.few; fit = rw g.same (omega (arith, room.fit, long)) }

    pub piece_put : {next : BitWriter} → AtMost 1 xs → Puts now xs next → Going start all next more
    piece_put {next} h p = record {
      same = ap length p.put ∙ with_bits_length now.out.now now.cursor.at xs ∙ g.same;
      small = rw p.put (with_bits_bytes now.out.now now.cursor.at xs h);
      place = rw p.moved (omega (arith, long));
      held = rw (p.put, p.moved) (with_bits_more now.out.now now.cursor.at (now.cursor.at + length xs) xs more h refl (rw g.same (omega (arith, room.fit, long))))
          ∙ ap (with_bits now.out.now now.cursor.at) (sym e) ∙ g.held;
      same_buffer = p.same_buffer ∙ g.same_buffer;
    }

  -- the rest has room, and once it is put all is
  pub rest_room : HasRoom start all → HasRoom now rest
  rest_room room = record { bytes = g.small; few = rw g.same room.few; fit = rw (g.place, g.same) room.fit }

  pub rest_put : {next : BitWriter} → Puts now rest next → Puts start all next
  rest_put p = record { moved = p.moved ∙ g.place; put = p.put ∙ g.held; same_buffer = p.same_buffer ∙ g.same_buffer }

  -- no rest left: all is put
  pub going_done : rest ≡ [] → Puts start all now
  going_done e =
      let none : length rest ≡ 0 = ap length e in
      let put : with_bits now.out.now now.cursor.at rest ≡ now.out.now = rw e (with_bits_none now.out.now now.cursor.at g.small) in
      record { moved = omega (arith, g.place); put = sym put ∙ g.held; same_buffer = g.same_buffer }
