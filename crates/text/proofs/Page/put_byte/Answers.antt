-- `text::Page::put_byte` meets its contract: one byte is stored.
use Rattle.text.proofs.Pasting.{stored}
use borrow.Author.Rules.{rules}
use Rattle.text.proofs.Page.put_byte.Goals as goal

pub returns : goal.returns
returns c = record { pasted = stored _ _ _; same_buffer = search rules }
