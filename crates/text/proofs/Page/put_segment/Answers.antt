-- `text::Page::put_segment` meets its contract, piece by piece: after each call one piece more of the segment's text is written.
use Rattle.text.specs.Text.{segment_text}
use Rattle.text.proofs.Pasting.{begin, room_piece, room_byte, put, end}
use borrow.Author.Rules.{rules}
use Rattle.text.proofs.Page.put_segment.Goals as goal

pub put_segment_line-requires : goal.put_segment_line-requires
unfolding segment_text
put_segment_line-requires c = room_piece c.requires (begin _ _ _)

pub put_hex-requires : goal.put_hex-requires
unfolding segment_text
put_hex-requires c = room_piece c.requires (put (begin _ _ _) c.put_segment_line.ensures.pasted)

pub put_byte-requires : goal.put_byte-requires
unfolding segment_text
put_byte-requires c = room_byte c.requires (put (put (begin _ _ _) c.put_segment_line.ensures.pasted) c.put_hex.ensures.pasted)

pub returns : goal.returns
unfolding segment_text
returns c = record { pasted = end (put (put (put (begin _ _ _) c.put_segment_line.ensures.pasted) c.put_hex.ensures.pasted) c.put_byte.ensures.pasted); same_buffer = search rules }
