-- The field of 256 elements: bytes, with xor as the sum, and as the product that of polynomials over two elements
-- modulo x^8 + x^4 + x^3 + x^2 + 1, which by its bits is the number 0x11D.
use Rattle.std.specs.Prelude.{ℕ, zero, suc, ◌*◌, ◌/◌, ◌%◌}
use Rattle.std.specs.Int.Bits.{bit_xor}

-- x times a: one place up, and the modulus taken off where a's eighth bit was set
unfoldable pub dbl_n : ℕ → ℕ
dbl_n a = bit_xor (a * 2) (a / 128 % 2 * 0x11D)

-- a times the k low bits of b: a where the lowest is set, and x times the product with the others
unfoldable pub mul_bits : ℕ → ℕ → ℕ → ℕ
unfolding dbl_n
mul_bits zero a b = zero
mul_bits (suc k) a b = bit_xor (b % 2 * a) (dbl_n (mul_bits k a (b / 2)))

-- the product of two bytes
unfoldable pub mul_n : ℕ → ℕ → ℕ
unfolding mul_bits
mul_n = mul_bits 8

-- x to the power i
unfoldable pub pow_n : ℕ → ℕ
unfolding dbl_n
pow_n zero = 1
pow_n (suc i) = dbl_n (pow_n i)

-- a to the power 2 + 4 + .. + 2^k
unfoldable pub even_powers : ℕ → ℕ → ℕ
unfolding mul_n
even_powers zero a = 1
even_powers (suc k) a = let s = mul_n a a in mul_n s (even_powers k s)

-- the inverse of a byte that is not 0, which is its power 254
unfoldable pub inv_n : ℕ → ℕ
unfolding even_powers
inv_n = even_powers 7
