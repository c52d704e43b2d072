-- `text::Page::put_hex` meets its contract: before turn k the first k bytes are written in hex and the others are left.
use mathlib.Core.Path.{ap}
use mathlib.Core.List.{[], ◌∷◌}
use Prim.Native.Nat.{◌/◌}
use mathlib.Core.Path.{refl}
use native.Mathlib.Omega.{arith}
use lib.ListN.{get_or}
use Rattle.text.specs.Text.{hex, hex_digit}
use Rattle.text.proofs.Pasting.{start as start_Writing, said, room, more, done}
use Rattle.text.proofs.Turns.{hex_turn, none_left}
use borrow.Author.Rules.{rules}
use Rattle.text.proofs.Page.put_hex.Goals as goal

pub loop-byte-init : goal.loop-byte-init
loop-byte-init c = (start_Writing _ _ _, refl)

pub put_byte-requires : goal.put_byte-requires
put_byte-requires c =
    let begun = said (hex_turn c.args.bytes.now c.loop-byte.byte-index (omega arith)) c.loop-byte.invariant.0 in
    rw c.hex_digit.ensures (room _ _ c.requires begun)

pub put_byte-requires-in-loop-byte : goal.put_byte-requires-in-loop-byte
put_byte-requires-in-loop-byte c =
    let begun = said (hex_turn c.args.bytes.now c.loop-byte.byte-index (omega arith)) c.loop-byte.invariant.0 in
    let high = more (hex_digit (get_or c.args.bytes.now c.loop-byte.byte-index 0 / 16) ∷ []) _ begun (rw c.hex_digit.ensures at c.put_byte.ensures.pasted) in
    rw c.hex_digit-in-loop-byte.ensures (room _ _ c.requires high)

pub loop-byte-preserved : goal.loop-byte-preserved
loop-byte-preserved c =
    let begun = said (hex_turn c.args.bytes.now c.loop-byte.byte-index (omega arith)) c.loop-byte.invariant.0 in
    let high = more (hex_digit (get_or c.args.bytes.now c.loop-byte.byte-index 0 / 16) ∷ []) _ begun (rw c.hex_digit.ensures at c.put_byte.ensures.pasted) in
    (more _ _ high (rw c.hex_digit-in-loop-byte.ensures at c.put_byte-in-loop-byte.ensures.pasted), search rules)

pub returns : goal.returns
unfolding hex
returns c = let l = c.loop-byte in
    record { pasted = done (said (ap hex (none_left c.args.bytes.now l.byte-index (omega arith))) l.invariant.0); same_buffer = l.invariant.1 }
