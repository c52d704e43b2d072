-- `text::Page::put_bytes` meets its contract: the bytes are copied into the part.
use Rattle.text.proofs.Pasting.{copied}
use borrow.Author.Rules.{rules}
use Rattle.text.proofs.Page.put_bytes.Goals as goal

pub returns : goal.returns
returns c = record { pasted = copied _ _ _ _ c.requires c.copy_from_slice.ensures.after; same_buffer = search rules }
