-- Bits that are put into a lent buffer, from its cursor on.
use Rattle.std.specs.Prelude.{◌≡◌, List, ℕ, ◌+◌, ◌*◌, ◌≤◌, length}
use Rattle.basics.specs.Lists.{AtMost}
use Rattle.cursor.specs.Cursor.{with_bits}
use Rattle.stream.specs.declared.BitWriter.{BitWriter}

-- the buffer is one of bytes, and has room for the bits
pub record HasRoom (writer : BitWriter) (bs : List ℕ) : Type 0 where
  pub bytes : AtMost 255 writer.out.now
  pub few : length writer.out.now ≤ 4096
  pub fit : writer.cursor.at + length bs ≤ 8 * length writer.out.now

-- the bits are in the buffer from the cursor on, all else there is as it was, and the cursor is past them
pub record Puts (before : BitWriter) (bs : List ℕ) (after : BitWriter) : Type 0 where
  pub moved : after.cursor.at ≡ before.cursor.at + length bs
  pub put : after.out.now ≡ with_bits before.out.now before.cursor.at bs
  pub same_buffer : after.out.ghost_name ≡ before.out.ghost_name
