-- `text::Page::put_hex` meets its contract: before turn k the first k bytes are written in hex and the others are left.
use lib.ListN.{drop}
use mathlib.Core.Path.{◌≡◌}
use Rattle.text.specs.Text.{hex}
use Rattle.text.proofs.Pasting.{Progress}
use Rattle.text.proofs.Page.put_hex.Given as goal

abbrev pub invariant-loop-byte : goal.invariant-loop-byte
invariant-loop-byte l = Progress l.initial.self.out.now l.initial.self.at (hex l.bytes) l.self.out.now l.self.at (hex (drop l.byte-index l.bytes))
    × (l.self.out.ghost_name ≡ l.initial.self.out.ghost_name)
