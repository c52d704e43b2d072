-- Numbers as bits, and bits as numbers.
use Rattle.std.specs.Prelude.{List, [], ◌∷◌, ◌++◌, ℕ, zero, suc, ◌+◌, ◌*◌, ◌/◌, ◌%◌, ◌^◌, take, drop}

-- bit b of a number, bit 0 the least significant
abbrev pub bit_of : ℕ → ℕ → ℕ
bit_of x b = x / 2 ^ b % 2

-- "Bits go most significant first": the k bits of a number
unfoldable pub bits : (k x : ℕ) → List ℕ
bits zero x = []
bits (suc k) x = bit_of x k ∷ bits k x

-- the bits of bytes
unfoldable pub byte_bits : List ℕ → List ℕ
byte_bits [] = []
byte_bits (a ∷ rest) = bits 8 a ++ byte_bits rest

-- and back: the number that bits make, after those that made x
unfoldable pub number_after : (x : ℕ) → List ℕ → ℕ
number_after x [] = x
number_after x (b ∷ bs) = number_after (x * 2 + b) bs

unfoldable pub number : List ℕ → ℕ
number bs = number_after 0 bs

-- the first k bytes of a list of bits
unfoldable pub bytes : ℕ → List ℕ → List ℕ
bytes zero bs = []
bytes (suc k) bs = number (take 8 bs) ∷ bytes k (drop 8 bs)

-- the number that bits make, the least significant first
unfoldable pub low_first : List ℕ → ℕ
low_first [] = 0
low_first (b ∷ bs) = b + 2 * low_first bs
