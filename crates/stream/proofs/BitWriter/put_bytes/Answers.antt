use Rattle.std.proofs.Common.{arith}
use Rattle.basics.proofs.Bits.{bits_le}
use Rattle.stream.proofs.Bodies.{bytes_more, bytes_none}
use Rattle.stream.proofs.Put.{going_start, piece_room, piece_put, going_done}
use Rattle.stream.proofs.BitWriter.put_bytes.Goals as goal

pub loop-c-init : goal.loop-c-init
loop-c-init c = going_start c.requires

pub put_bits-requires : goal.put_bits-requires
put_bits-requires c = let l = c.loop-c in
    (omega arith, piece_room l.invariant c.requires _ _ (bytes_more c.args.chars.now l.c-index _ (omega arith) c.from.ensures))

pub loop-c-preserved : goal.loop-c-preserved
loop-c-preserved c = let l = c.loop-c in
    piece_put l.invariant c.requires _ _ (bytes_more c.args.chars.now l.c-index _ (omega arith) c.from.ensures) (bits_le 8 _) c.put_bits.ensures

pub returns : goal.returns
returns c = going_done c.loop-c.invariant (bytes_none _ c.loop-c.c-index (omega arith))
