-- What is shown of the version table beside the contracts, each a statement with a name.
use Rattle.std.specs.Prelude.{◌≡◌, ℕ, ◌+◌, ◌-◌, ◌*◌, ◌<◌, ◌≤◌, Option}
use Rattle.basics.specs.Sums.{sum}
use Rattle.tables.specs.Tables.{Lawful, total, check_count, block_count, data_count, short_length, short_blocks, block_data, block_start, block_length, room, side, last_version, most_side, most_modules, most_codewords, most_data, most_checks, most_blocks}
use Rattle.tables.specs.Version.{Fixes}

-- the rules that the table's numbers meet at a version and a level
pub record TableRules (v level : ℕ) : Type 0 where
  -- "Data codewords D = total − n·B for n checks and B blocks": nothing is cut off, and D is positive
  pub whole : data_count v level + check_count v level * block_count v level ≡ total v
  pub positive : 0 < data_count v level
  -- "The first B − (D mod B) blocks hold floor(D/B) data codewords, the others one more; data fills the blocks in order"
  pub starts : (b : ℕ) → block_start v level b ≡ b * short_length v level + (b - short_blocks v level)
  pub filled : block_start v level (block_count v level) ≡ data_count v level
  pub lengths : sum (block_count v level) (block_length v level) ≡ total v
  -- each block has data, and fewer codewords than the field has elements
  pub held : (b : ℕ) → 0 < block_data v level b
  pub short : (b : ℕ) → block_length v level b < 256
  -- "the bound is 2t + e ≤ n at every version and level"
  pub bound : room v level ≡ check_count v level
  -- the buffers have room for every version and level
  pub codewords : total v ≤ most_codewords
  pub checks : check_count v level ≤ most_checks
  pub blocks : block_count v level ≤ most_blocks

-- a version and a level that has the number
abbrev pub Reached : (of_size : (v level : ℕ) → ℕ) (n : ℕ) → Type 0
Reached of_size n = (v : ℕ) × ((level : ℕ) × (Lawful v level × (of_size v level ≡ n)))

-- the buffers are no larger than some version and level needs
pub record LargestRules : Type 0 where
  pub sides : most_side ≡ side last_version
  pub modules : most_modules ≡ most_side * most_side
  pub codewords : most_codewords ≡ total last_version
  pub held : Reached data_count most_data
  pub checks : Reached check_count most_checks
  pub blocks : Reached block_count most_blocks

abbrev pub Rules : Type 0
Rules = (v level : ℕ) → Lawful v level → TableRules v level

-- "side length fixes the version": no two different answers satisfy the promise of `version_of`
abbrev pub FixesOnly : Type 0
FixesOnly = (n : ℕ) (a b : Option ℕ) → Fixes n a → Fixes n b → a ≡ b
