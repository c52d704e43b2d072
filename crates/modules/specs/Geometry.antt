-- What is to be shown of the layout: "Placement meets each data module exactly once", and writer and reader have one geometry.
use Rattle.std.specs.Prelude.{◌≡◌, true, List, ℕ, ◌+◌, ◌-◌, ◌*◌, ◌/◌, ◌%◌, ◌≤◌, ◌<◌, length, get_or}
use Rattle.std.specs.Int.Bits.{bit_xor}
use Rattle.basics.specs.Bits.{bit_of, byte_bits}
use Rattle.tables.specs.Tables.{side, total, surplus, last_version}
use Rattle.words.specs.Words.{format_word, format_bits, version_word}
use Rattle.modules.specs.Modules.{Module, Format, Version, module_of, order, walk, step, flips, is_data, format_places, version_places, symbol}

-- "Placement meets each data module exactly once"
pub record PlacedOnce (v : ℕ) : Type 0 where
  -- what is met is a data module of the matrix
  pub inside : (k : ℕ) → k < length (order v) → get_or (order v) k 0 < side v * side v
  pub data_only : (k : ℕ) → k < length (order v) → is_data v (get_or (order v) k 0) ≡ true
  -- each is met
  pub all : (p : ℕ) → p < side v * side v → is_data v p ≡ true → (k : ℕ) × (k < length (order v)) × (get_or (order v) k 0 ≡ p)
  -- and met once
  pub once : (j k : ℕ) → j < length (order v) → k < length (order v) → get_or (order v) j 0 ≡ get_or (order v) k 0 → j ≡ k
  -- "8·total plus 7 more in versions 2 to 6 and none more otherwise"
  pub count : length (order v) ≡ 8 * total v + surplus v
  -- the walk and its closed form back
  pub back : (k : ℕ) → k < side v * (side v - 1) → step (side v) (walk (side v) k / side v) (walk (side v) k % side v) ≡ k

-- the module at place p
abbrev pub module_on : (v p : ℕ) → Module
module_on v p = module_of v (p / side v) (p % side v)

-- each listed place of a word is a module of the matrix, that bit's
pub record WordPlaces (v : ℕ) : Type 0 where
  pub formats : (copy b : ℕ) → copy < 2 → b < 15 → module_on v (get_or (format_places v copy) b 0) ≡ Format copy b
  pub versions : (copy b : ℕ) → 7 ≤ v → copy < 2 → b < 18 → module_on v (get_or (version_places v copy) b 0) ≡ Version copy b
  pub format_inside : (copy b : ℕ) → copy < 2 → b < 15 → get_or (format_places v copy) b 0 < side v * side v
  pub version_inside : (copy b : ℕ) → 7 ≤ v → copy < 2 → b < 18 → get_or (version_places v copy) b 0 < side v * side v

abbrev pub Placement : Type 0
Placement = (v : ℕ) → 1 ≤ v → v ≤ last_version → PlacedOnce v × WordPlaces v

-- "Codeword bits fill them; the surplus is 0", "Masks flip a data module (surplus included)": bit k stands at data module k
abbrev pub Filled : Type 0
Filled =
    (v : ℕ) → 1 ≤ v → v ≤ last_version → (level mask : ℕ) (codewords : List ℕ) (k : ℕ) → k < length (order v)
    → get_or (symbol v level mask codewords) (get_or (order v) k 0) 0
    ≡ bit_xor (get_or (byte_bits codewords) k 0) (flips mask (get_or (order v) k 0 / side v) (get_or (order v) k 0 % side v))

-- "copy one: bits 0 to 5 at (row b, column 8) .. Copy two: bits 0 to 7 at (8, s−1−b)": each listed place has its bit's colour
abbrev pub FormatDrawn : Type 0
FormatDrawn =
    (v : ℕ) → 1 ≤ v → v ≤ last_version → (level mask : ℕ) (codewords : List ℕ) (copy b : ℕ) → copy < 2 → b < 15
    → get_or (symbol v level mask codewords) (get_or (format_places v copy) b 0) 0 ≡ bit_of (format_word (format_bits level mask)) b

-- "Drawn from version 7 on: bit b at row floor(b/3), column s−11+(b mod 3), and at the transposed place"
abbrev pub VersionDrawn : Type 0
VersionDrawn =
    (v : ℕ) → 1 ≤ v → v ≤ last_version → (level mask : ℕ) (codewords : List ℕ) (copy b : ℕ) → 7 ≤ v → copy < 2 → b < 18
    → get_or (symbol v level mask codewords) (get_or (version_places v copy) b 0) 0 ≡ bit_of (version_word v) b
