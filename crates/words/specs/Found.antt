-- Which word a copy stands for. Of the bits of the copy those set in `readable` could be read.
use Rattle.std.specs.Prelude.{ℕ, ◌≤◌, ◌<◌, Option, Some, None}
use Rattle.words.specs.Words.{format_word, version_word, Near}

-- a copy stands for the format word of five bits
pub record FormatNear (copy readable bits : ℕ) : Type 0 where
  pub lawful : bits < 32
  pub near : Near 15 copy readable (format_word bits)

-- a copy stands for the version word of a version: "versions 7 to 40 in the code"
pub record VersionNear (copy readable v : ℕ) : Type 0 where
  pub least : 7 ≤ v
  pub most : v ≤ 40
  pub near : Near 18 copy readable (version_word v)

abbrev pub FormatFound : (copy readable : ℕ) → Option ℕ → Type 0
FormatFound copy readable (Some bits) = FormatNear copy readable bits
FormatFound copy readable None = (bits : ℕ) → FormatNear copy readable bits → ⊥

abbrev pub VersionFound : (copy readable : ℕ) → Option ℕ → Type 0
VersionFound copy readable (Some v) = VersionNear copy readable v
VersionFound copy readable None = (v : ℕ) → VersionNear copy readable v → ⊥

-- the same of the words of some numbers, from `first` to before `end`: `IsWord x` tells the word of x, which has k bits
abbrev pub FoundAmong : (IsWord : ℕ → ℕ → Type 0) (k copy readable first end : ℕ) → Option ℕ → Type 0
FoundAmong IsWord k copy readable first end (Some x) = (first ≤ x) × (x < end) × (word : ℕ) × IsWord x word × Near k copy readable word
FoundAmong IsWord k copy readable first end None =
    (x : ℕ) → first ≤ x → x < end → (word : ℕ) × IsWord x word × (Near k copy readable word → ⊥)
