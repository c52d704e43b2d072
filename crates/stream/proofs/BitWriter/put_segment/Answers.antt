-- Mode, count and body are put one after the other.
use Rattle.std.proofs.Common.{arith, ◌≡◌, ℕ, List, ◌++◌, length, refl, append_assoc}
use Rattle.basics.specs.Bits.{bits}
use Rattle.basics.proofs.Bits.{bits_le}
use Rattle.tables.specs.Tables.{count_width}
use Rattle.stream.specs.BitWriter.{HasRoom, Puts}
use Rattle.stream.specs.Put.{segment_bits}
use Rattle.stream.specs.Stream.{body}
use Rattle.stream.specs.declared.BitWriter.{BitWriter}
use Rattle.stream.proofs.Put.{Going, going_start, piece_room, piece_put, rest_room, rest_put}
use Rattle.stream.proofs.Widths.{count_width_le}
use Rattle.stream.proofs.BitWriter.put_segment.Goals as goal

module _ (v mode : ℕ) (chars : List ℕ) {m k n : ℕ} (e : m ≡ mode) (f : k ≡ mode) (g : n ≡ count_width v k) where
  -- the segment as its mode, its count and what follows
  split : segment_bits v mode chars ≡ bits 4 m ++ (bits n (length chars) ++ body k chars)
  split = rw (e, g, f) (append_assoc (bits 4 mode) (bits (count_width v mode) (length chars)) (body mode chars))

  module _ {start : BitWriter} (room : HasRoom start (segment_bits v mode chars)) where
    mode_room : HasRoom start (bits 4 m)
    mode_room = piece_room (going_start room) room _ _ split

    -- the mode is put, and then the count
    moded : {next : BitWriter} → Puts start (bits 4 m) next → Going start (segment_bits v mode chars) next (bits n (length chars) ++ body k chars)
    moded p = piece_put (going_start room) room _ _ split (bits_le 4 m) p

    counted : {next last : BitWriter} → Puts start (bits 4 m) next → Puts next (bits n (length chars)) last → Going start (segment_bits v mode chars) last (body k chars)
    counted p q = piece_put (moded p) room _ _ refl (bits_le n (length chars)) q

pub put_bits-requires : goal.put_bits-requires
put_bits-requires c = (omega arith, mode_room c.args.v c.args.mode c.args.chars.now c.from.ensures refl refl c.requires.1)

pub put_bits-requires-2 : goal.put_bits-requires-2
put_bits-requires-2 c =
    let going = moded c.args.v c.args.mode c.args.chars.now c.from.ensures c.from-mode.ensures c.count_width.ensures c.requires.1 c.put_bits.ensures in
    (rw c.count_width.ensures (count_width_le c.args.v c.from-mode.result), piece_room going c.requires.1 _ _ refl)

pub put_body-requires : goal.put_body-requires
put_body-requires c =
    rest_room (counted c.args.v c.args.mode c.args.chars.now c.from.ensures c.from-mode.ensures c.count_width.ensures c.requires.1 c.put_bits.ensures c.put_bits-2.ensures) c.requires.1

pub returns : goal.returns
returns c =
    rest_put (counted c.args.v c.args.mode c.args.chars.now c.from.ensures c.from-mode.ensures c.count_width.ensures c.requires.1 c.put_bits.ensures c.put_bits-2.ensures) c.put_body.ensures
