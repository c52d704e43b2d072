-- The five bits of a format word and the level and mask that they name: each way back is exact, by a test of all.
use mathlib.Core.Path.{◌≡◌, sym, ap, ◌∙◌}
use Prim.Native.Nat.{ℕ, ◌+◌, ◌*◌, ◌^◌, ◌<◌}
use native.Mathlib.Nat.{mod-lt}
use lib.Dec.{T, eqb, eqb→eq, ltb, ltb→lt, lit<}
use Rattle.basics.proofs.Test.{all, at, grid, same_1}
use Rattle.words.specs.Words.{reduced, format_bits, format_word, version_word, level_of, mask_of}

pub format_bits_lt : (level mask : ℕ) → level < 4 → mask < 8 → format_bits level mask < 32
unfolding format_bits
format_bits_lt level mask hl hm = ltb→lt _ _ (grid 4 8 (λ level mask. ltb (format_bits level mask) 32) tt level mask hl hm)

pub level_bits : (level mask : ℕ) → level < 4 → mask < 8 → level_of (format_bits level mask) ≡ level
unfolding format_bits level_of
level_bits level mask hl hm = eqb→eq _ _ (grid 4 8 (λ level mask. eqb (level_of (format_bits level mask)) level) tt level mask hl hm)

pub mask_bits : (level mask : ℕ) → level < 4 → mask < 8 → mask_of (format_bits level mask) ≡ mask
unfolding format_bits mask_of
mask_bits level mask hl hm = eqb→eq _ _ (grid 4 8 (λ level mask. eqb (mask_of (format_bits level mask)) mask) tt level mask hl hm)

-- two pairs of a level and a mask with the same bits are one
pub bits_level : (l₀ m₀ l₁ m₁ : ℕ) → l₀ < 4 → m₀ < 8 → l₁ < 4 → m₁ < 8 → format_bits l₀ m₀ ≡ format_bits l₁ m₁ → l₀ ≡ l₁
bits_level l₀ m₀ l₁ m₁ hl hm kl km e = sym (level_bits l₀ m₀ hl hm) ∙ ap level_of e ∙ level_bits l₁ m₁ kl km

pub bits_mask : (l₀ m₀ l₁ m₁ : ℕ) → l₀ < 4 → m₀ < 8 → l₁ < 4 → m₁ < 8 → format_bits l₀ m₀ ≡ format_bits l₁ m₁ → m₀ ≡ m₁
bits_mask l₀ m₀ l₁ m₁ hl hm kl km e = sym (mask_bits l₀ m₀ hl hm) ∙ ap mask_of e ∙ mask_bits l₁ m₁ kl km

pub level_lt : (bits : ℕ) → bits < 32 → level_of bits < 4
unfolding level_of
level_lt bits h = ltb→lt _ _ (at 32 (λ b. ltb (level_of b) 4) tt bits h)

pub mask_lt : (bits : ℕ) → mask_of bits < 8
unfolding mask_of
mask_lt bits = mod-lt bits (lit< tt)

pub bits_of : (bits : ℕ) → bits < 32 → format_bits (level_of bits) (mask_of bits) ≡ bits
unfolding format_bits level_of mask_of
bits_of bits h = same_1 32 (λ b. format_bits (level_of b) (mask_of b)) (λ b. b) tt bits h

-- ---- the words have their bits

format_sum_tested : T (all 32 (λ b. ltb (b * 2 ^ 10 + reduced 10 0x537 5 (b * 2 ^ 10)) (2 ^ 15)))
unfolding reduced
format_sum_tested = tt

pub format_sum_lt : (bits : ℕ) → bits < 32 → bits * 2 ^ 10 + reduced 10 0x537 5 (bits * 2 ^ 10) < 2 ^ 15
format_sum_lt bits h = ltb→lt _ _ (at 32 (λ b. ltb (b * 2 ^ 10 + reduced 10 0x537 5 (b * 2 ^ 10)) (2 ^ 15)) format_sum_tested bits h)

format_word_tested : T (all 32 (λ b. ltb (format_word b) (2 ^ 15)))
unfolding format_word reduced
format_word_tested = tt

pub format_word_lt : (bits : ℕ) → bits < 32 → format_word bits < 2 ^ 15
format_word_lt bits h = ltb→lt _ _ (at 32 (λ b. ltb (format_word b) (2 ^ 15)) format_word_tested bits h)

version_word_tested : T (all 64 (λ v. ltb (version_word v) (2 ^ 18)))
unfolding version_word reduced
version_word_tested = tt

pub version_word_lt : (v : ℕ) → v < 64 → version_word v < 2 ^ 18
version_word_lt v h = ltb→lt _ _ (at 64 (λ v. ltb (version_word v) (2 ^ 18)) version_word_tested v h)
