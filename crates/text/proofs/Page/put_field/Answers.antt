-- `text::Page::put_field` meets its contract: the name, and then the number.
use Rattle.text.proofs.Pasting.{then, room_first, room_next}
use borrow.Author.Rules.{rules}
use Rattle.text.proofs.Page.put_field.Goals as goal

pub put_bytes-requires : goal.put_bytes-requires
put_bytes-requires c = room_first _ _ c.requires

pub put_digits-requires : goal.put_digits-requires
put_digits-requires c = room_next _ c.requires c.put_bytes.ensures.pasted

pub returns : goal.returns
returns c = record { pasted = then c.put_bytes.ensures.pasted c.put_digits.ensures.pasted; same_buffer = search rules }
