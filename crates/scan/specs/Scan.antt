-- What each pass over a matrix hands on.
use Rattle.std.specs.Prelude.{◌≡◌, true, false, cond, Option, Some, None, List, map, ℕ, ◌*◌, ◌/◌, ◌%◌, ◌≤◌, ◌<◌, eqb, length, get_or, take}
use Rattle.std.specs.Int.Bits.{bit_xor}
use Rattle.basics.specs.Bits.{bit_of, number}
use Rattle.basics.specs.Lists.{up_to, keep, any}
use Rattle.tables.specs.Tables.{side, last_version, most_side}
use Rattle.modules.specs.Modules.{walk, is_data}
use Rattle.scan.specs.declared.Copy.{Copy}
use Rattle.scan.specs.Received.{copied, readable}

-- a copy of a word as it was read at its places, and which of its bits could be read
pub record CopyRead (m places : List ℕ) (c : Copy) : Type 0 where
  pub bits : c.bits ≡ copied m places
  pub can : c.readable ≡ readable m places

-- a number for each module, 2 at the data modules and there alone
pub record DataMap (v : ℕ) (kinds : List ℕ) : Type 0 where
  pub long : side v * side v ≤ length kinds
  pub tells : (p : ℕ) → p < side v * side v → eqb (get_or kinds p 0) 2 ≡ is_data v p

-- a module with the flips of its row taken off, bit j for column j; 2 stays "unreadable"
unfoldable pub plain : (x row j : ℕ) → ℕ
plain x row j = cond (eqb x 2) 2 (bit_xor x (bit_of row j))

-- the data modules that the first k steps of the walk meet, the flips of the rows taken off
unfoldable pub passed : (v : ℕ) (rows m : List ℕ) (k : ℕ) → List ℕ
passed v rows m k = map (λ p. plain (get_or m p 0) (get_or rows (p / side v) 0) (p % side v)) (keep (is_data v) (map (walk (side v)) (up_to k)))

-- eight modules as a codeword: none where one of them could not be read, and else their number
abbrev pub EightRead : (bs : List ℕ) → Option ℕ → Type 0
EightRead bs (Some x) = (any (eqb 2) bs ≡ false) × (x ≡ number bs)
EightRead bs None = any (eqb 2) bs ≡ true

-- the first n entries of `out` are the data modules that the first k steps meet
pub record Walked (v : ℕ) (rows m : List ℕ) (k n : ℕ) (out : List ℕ) : Type 0 where
  pub few : n ≤ k
  pub front : take n out ≡ passed v rows m k

-- what the walk over a matrix needs
pub record Ready (v : ℕ) (m kinds rows : List ℕ) : Type 0 where
  pub least : 1 ≤ v
  pub most : v ≤ last_version
  pub matrix : length m ≡ side v * side v
  pub marked : DataMap v kinds
  pub flips : most_side ≤ length rows
