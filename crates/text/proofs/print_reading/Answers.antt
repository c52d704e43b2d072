-- `text::print_reading` meets its contract, piece by piece: after each call one piece more of the output is written.
use borrow.Author.Rules.{rules}
use Rattle.text.specs.Text.{text, reading_text}
use Rattle.text.proofs.Pasting.{begin, room_piece, room_byte, put, end, printed, printed_in}
use Rattle.text.proofs.Length.{reading_room}
use Rattle.text.proofs.print_reading.Goals as goal

pub put_first_line-requires : goal.put_first_line-requires
unfolding text reading_text
put_first_line-requires c = (c.requires.0, room_piece (reading_room _ c.args.version c.args.level c.args.mask _ _ c.args.differing c.args.unreadable c.requires.1.1.0 c.requires.1.1.1.0 c.requires.1.1.1.1) (begin _ _ _))

pub put_second_line-requires : goal.put_second_line-requires
unfolding text reading_text
put_second_line-requires c = room_piece (reading_room _ _ _ _ _ _ _ _ c.requires.1.1.0 c.requires.1.1.1.0 c.requires.1.1.1.1) (put (begin _ _ _) c.put_first_line.ensures.pasted)

pub put_segments-requires : goal.put_segments-requires
unfolding text reading_text
put_segments-requires c = (c.requires.1.0, room_piece (reading_room _ _ _ _ _ _ _ _ c.requires.1.1.0 c.requires.1.1.1.0 c.requires.1.1.1.1) (put (put (begin _ _ _) c.put_first_line.ensures.pasted) c.put_second_line.ensures.pasted))

pub put_bytes-requires : goal.put_bytes-requires
unfolding text reading_text
put_bytes-requires c = room_piece (reading_room _ _ _ _ _ _ _ _ c.requires.1.1.0 c.requires.1.1.1.0 c.requires.1.1.1.1) (put (put (put (begin _ _ _) c.put_first_line.ensures.pasted) c.put_second_line.ensures.pasted) c.put_segments.ensures.pasted)

pub put_byte-requires : goal.put_byte-requires
unfolding text reading_text
put_byte-requires c = room_byte (reading_room _ _ _ _ _ _ _ _ c.requires.1.1.0 c.requires.1.1.1.0 c.requires.1.1.1.1) (put (put (put (put (begin _ _ _) c.put_first_line.ensures.pasted) c.put_second_line.ensures.pasted) c.put_segments.ensures.pasted) c.put_bytes.ensures.pasted)

pub returns : goal.returns
unfolding text reading_text
returns c =
    printed_in (search rules) (printed (reading_room _ _ _ _ _ _ _ _ c.requires.1.1.0 c.requires.1.1.1.0 c.requires.1.1.1.1) (end (put (put (put (put (put (begin _ _ _) c.put_first_line.ensures.pasted) c.put_second_line.ensures.pasted) c.put_segments.ensures.pasted) c.put_bytes.ensures.pasted) c.put_byte.ensures.pasted)))
