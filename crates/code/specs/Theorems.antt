-- What is shown of the code beside the contracts, each a statement with a name.
use Rattle.std.specs.Prelude.{◌≡◌, List, ◌++◌, ℕ, suc, ◌≤◌, ◌<◌, length}
use Rattle.basics.specs.Lists.{AtMost}
use Rattle.code.specs.Code.{checks, Codeword, apart_at, Stands}

-- "The code's distance, n + 1, is proved once over n": two codewords of one length that differ in at most n places are equal
abbrev pub Distance : Type 0
Distance = (n : ℕ) (a b : List ℕ) → length a ≡ length b → length a ≤ 255 → Codeword n a → Codeword n b → apart_at a b ≤ n → a ≡ b

-- and it is reached: some two codewords of N differ in n + 1 places
abbrev pub DistanceReached : Type 0
DistanceReached =
    (n N : ℕ) → n < N → N ≤ 255
    → (a : List ℕ) × (b : List ℕ) × (length a ≡ N) × (length b ≡ N) × Codeword n a × Codeword n b × (apart_at a b ≡ suc n)

-- "the bound is 2t + e ≤ n": at most one codeword stands for a block, with one t and one e
abbrev pub StandsOnly : Type 0
StandsOnly =
    (n room : ℕ) (w flags c₁ c₂ : List ℕ) (t₁ e₁ t₂ e₂ : ℕ) → room ≤ n → length w ≤ 255
    → Stands n room w flags c₁ t₁ e₁ → Stands n room w flags c₂ t₂ e₂ → (c₁ ≡ c₂) × (t₁ ≡ t₂) × (e₁ ≡ e₂)

-- "checks are the remainder of data·x^n": data followed by its n checks is a codeword, and no other checks make it one
abbrev pub ChecksCodeword : Type 0
ChecksCodeword =
    (n : ℕ) (held : List ℕ) → n ≤ 255 → AtMost 255 held
    → (length (checks n held) ≡ n) × Codeword n (held ++ checks n held)
    × ((r : List ℕ) → length r ≡ n → Codeword n (held ++ r) → r ≡ checks n held)
