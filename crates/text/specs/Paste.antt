-- Text that is written into a buffer from a place on.
use Rattle.std.specs.Prelude.{◌≡◌, List, [], ◌∷◌, ◌++◌, ℕ, suc, ◌+◌, ◌≤◌, length, drop, set}

-- the buffer with the bytes stored one after the other from a place on; every other byte is as it was
unfoldable pub pasted : (at : ℕ) (bytes out : List ℕ) → List ℕ
pasted at [] out = out
pasted at (b ∷ bytes) out = pasted (suc at) bytes (set out at b)

-- the buffer has room for the bytes from a place on
pub record RoomForBytes (out : List ℕ) (at : ℕ) (bytes : List ℕ) : Type 0 where
  pub fits : at + length bytes ≤ length out

-- the bytes are in the buffer from a place on, nothing else has changed, and the next free place is right behind them
pub record Pasted (out : List ℕ) (at : ℕ) (bytes : List ℕ) (next : ℕ) (after : List ℕ) : Type 0 where
  pub behind : next ≡ at + length bytes
  pub holds : after ≡ pasted at bytes out

-- the text is the front of the buffer and so many bytes long; behind it the buffer is as it was
pub record Printed (text before : List ℕ) (count : ℕ) (after : List ℕ) : Type 0 where
  pub counts : count ≡ length text
  pub holds : after ≡ text ++ drop (length text) before
