-- `text::Page::put_second_line` meets its contract, piece by piece: after each call one piece more of the line is written.
use Rattle.text.specs.Text.{text, second_line}
use Rattle.text.proofs.Pasting.{begin, room_piece, room_byte, put, end}
use borrow.Author.Rules.{rules}
use Rattle.text.proofs.Page.put_second_line.Goals as goal

pub put_field-requires : goal.put_field-requires
unfolding text second_line
put_field-requires c = room_piece c.requires (begin _ _ _)

pub put_field-requires-2 : goal.put_field-requires-2
unfolding text second_line
put_field-requires-2 c = room_piece c.requires (put (begin _ _ _) c.put_field.ensures.pasted)

pub put_byte-requires : goal.put_byte-requires
unfolding text second_line
put_byte-requires c = room_byte c.requires (put (put (begin _ _ _) c.put_field.ensures.pasted) c.put_field-2.ensures.pasted)

pub returns : goal.returns
unfolding text second_line
returns c = record { pasted = end (put (put (put (begin _ _ _) c.put_field.ensures.pasted) c.put_field-2.ensures.pasted) c.put_byte.ensures.pasted); same_buffer = search rules }
