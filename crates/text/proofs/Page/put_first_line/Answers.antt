-- `text::Page::put_first_line` meets its contract, piece by piece: after each call one piece more of the line is written.
use Rattle.text.specs.Text.{text, first_line}
use Rattle.text.proofs.Pasting.{begin, room_piece, room_byte, put, end}
use borrow.Author.Rules.{rules}
use Rattle.text.proofs.Page.put_first_line.Goals as goal

pub put_field-requires : goal.put_field-requires
unfolding text first_line
put_field-requires c = room_piece c.requires.1 (begin _ _ _)

pub put_bytes-requires : goal.put_bytes-requires
unfolding text first_line
put_bytes-requires c = room_piece c.requires.1 (put (begin _ _ _) c.put_field.ensures.pasted)

pub put_byte-requires : goal.put_byte-requires
unfolding text first_line
put_byte-requires c = rw c.letter_of.ensures (room_piece c.requires.1 (put (put (begin _ _ _) c.put_field.ensures.pasted) c.put_bytes.ensures.pasted))

pub put_field-requires-2 : goal.put_field-requires-2
unfolding text first_line
put_field-requires-2 c = room_piece c.requires.1 (put (put (put (begin _ _ _) c.put_field.ensures.pasted) c.put_bytes.ensures.pasted) (rw c.letter_of.ensures at c.put_byte.ensures.pasted))

pub put_byte-requires-2 : goal.put_byte-requires-2
unfolding text first_line
put_byte-requires-2 c = room_byte c.requires.1 (put (put (put (put (begin _ _ _) c.put_field.ensures.pasted) c.put_bytes.ensures.pasted) (rw c.letter_of.ensures at c.put_byte.ensures.pasted)) c.put_field-2.ensures.pasted)

pub returns : goal.returns
unfolding text first_line
returns c = record { pasted = end (put (put (put (put (put (begin _ _ _) c.put_field.ensures.pasted) c.put_bytes.ensures.pasted) (rw c.letter_of.ensures at c.put_byte.ensures.pasted)) c.put_field-2.ensures.pasted) c.put_byte-2.ensures.pasted); same_buffer = search rules }
