-- The format word and the version word, and what a copy of one stands for.
use Rattle.std.specs.Prelude.{[], ◌∷◌, ℕ, zero, suc, ◌+◌, ◌-◌, ◌*◌, ◌/◌, ◌%◌, ◌^◌, ◌≤◌, get_or}
use Rattle.std.specs.Int.Bits.{bit_and, bit_xor}
use Rattle.std.specs.Int.Count.{ones_in}

-- the remainder of n, which has k + j bits, by g of degree k: from the highest bit down
unfoldable pub reduced : (k g j n : ℕ) → ℕ
reduced k g zero n = n
reduced k g (suc j) n = reduced k g j (bit_xor n (n / 2 ^ (k + j) % 2 * (g * 2 ^ j)))

-- "Format word: 5 bits .., 10 check bits (remainder of the 5 bits times x^10 by hex 537), all xor hex 5412"
unfoldable pub format_word : ℕ → ℕ
format_word d = bit_xor (d * 2 ^ 10 + reduced 10 0x537 5 (d * 2 ^ 10)) 0x5412

-- "level code L 1, M 0, Q 3, H 2, then 3 mask bits"
unfoldable pub format_bits : (level mask : ℕ) → ℕ
format_bits level mask = get_or (1 ∷ 0 ∷ 3 ∷ 2 ∷ []) level 0 * 8 + mask

-- and back: the level and the mask of five bits
unfoldable pub level_of : ℕ → ℕ
level_of bits = get_or (1 ∷ 0 ∷ 3 ∷ 2 ∷ []) (bits / 8) 0

unfoldable pub mask_of : ℕ → ℕ
mask_of bits = bits % 8

-- "Version word ..: 6 bits and 12 check bits by hex 1F25"
unfoldable pub version_word : ℕ → ℕ
version_word v = v * 2 ^ 12 + reduced 12 0x1F25 6 (v * 2 ^ 12)

-- "a copy with e unreadable bits stands for a word that differs at d readable bits when 2d + e ≤ 6":
-- of the k bits of the copy, those set in `readable` could be read
unfoldable pub Near : (k copy readable word : ℕ) → Type 0
Near k copy readable word = 2 * ones_in k (bit_and (bit_xor copy word) readable) + (k - ones_in k readable) ≤ 6
