-- `text::print_refusal` meets its contract, piece by piece.
use borrow.Author.Rules.{rules}
use Rattle.text.specs.Text.{text, refusal_text}
use Rattle.text.proofs.Pasting.{begin, room_piece, room_byte, put, end, printed, printed_in}
use Rattle.text.proofs.Length.{refusal_room}
use Rattle.text.proofs.print_refusal.Goals as goal

pub put_field-requires : goal.put_field-requires
unfolding text refusal_text
put_field-requires c = room_piece (refusal_room _ _ c.requires) (begin _ _ _)

pub put_byte-requires : goal.put_byte-requires
unfolding text refusal_text
put_byte-requires c = room_byte (refusal_room _ _ c.requires) (put (begin _ _ _) c.put_field.ensures.pasted)

pub returns : goal.returns
unfolding text refusal_text
returns c =
    printed_in (search rules) (printed (refusal_room _ _ c.requires) (end (put (put (begin _ _ _) c.put_field.ensures.pasted) c.put_byte.ensures.pasted)))
