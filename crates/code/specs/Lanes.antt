-- What the loops over a fixed number of coefficients leave, entry by entry.
use Rattle.std.specs.Prelude.{List, ◌++◌, ℕ, zero, suc, ◌-◌, length, get_or, replicate}
use Rattle.std.specs.Int.Bits.{bit_xor}
use Rattle.field.specs.Field.{mul_n}

-- how many coefficients a loop takes together, and how many a polynomial of that degree has
abbrev pub lanes : ℕ
lanes = 32

abbrev pub coefficients : ℕ
coefficients = 33

-- a list, and zeros up to m entries
unfoldable pub padded : ℕ → List ℕ → List ℕ
padded m l = l ++ replicate (m - length l) 0

-- coefficient k of the product of g and (x − a)
unfoldable pub rooted : (g : List ℕ) (a k : ℕ) → ℕ
rooted g a zero = get_or g 0 0
rooted g a (suc k) = bit_xor (get_or g (suc k) 0) (mul_n a (get_or g k 0))

-- coefficient k of what is left of x times r and d after one step of the division by g
unfoldable pub reduced : (r g : List ℕ) (d k : ℕ) → ℕ
reduced r g d k = bit_xor (get_or r (suc k) 0) (mul_n (bit_xor d (get_or r 0 0)) (get_or g (suc k) 0))

-- value k times its power, and the next coefficient c
unfoldable pub hornered : (s p : List ℕ) (c k : ℕ) → ℕ
hornered s p c k = bit_xor (mul_n (get_or s k 0) (get_or p k 0)) c
