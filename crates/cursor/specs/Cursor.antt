-- What a bit cursor takes and puts. "Bits go most significant first".
use Rattle.std.specs.Prelude.{List, ◌++◌, ℕ, ◌+◌, length, take, drop}
use Rattle.basics.specs.Bits.{byte_bits, number, bytes}

-- the n bits from a place on, as a number
unfoldable pub field : List ℕ → (at n : ℕ) → ℕ
field s at n = number (take n (drop at (byte_bits s)))

-- bytes whose bits from a place on are these, and all others as they were
unfoldable pub with_bits : List ℕ → (at : ℕ) → List ℕ → List ℕ
with_bits s at bs = bytes (length s) (take at (byte_bits s) ++ (bs ++ drop (at + length bs) (byte_bits s)))
