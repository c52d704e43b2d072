-- What is shown of the sent order beside the contracts, each a statement with a name.
use Rattle.std.specs.Prelude.{◌≡◌, List, ℕ, ◌<◌, length, get_or}
use Rattle.tables.specs.Tables.{total, block_count, data_count, block_length, Lawful}
use Rattle.blocks.specs.Blocks.{Cell, block, sent_order, sent, sent_place, gathered, data_of}

-- a cell of a block of this version and level, whose place in the sent order is q
pub record Stood (v level q : ℕ) (c : Cell) : Type 0 where
  pub block : c.of < block_count v level
  pub inside : c.at < block_length v level c.of
  pub place : sent_place v level c.of c.at ≡ q

-- "Sent order: first data codeword of each block in block order, then the second, and so on": each codeword of each block is sent once
pub record SentOnce (v level : ℕ) : Type 0 where
  -- as many codewords are sent as the version has
  pub long : length (sent_order v level) ≡ total v
  -- codeword p of block b is sent at its place
  pub inside : (b p : ℕ) → b < block_count v level → p < block_length v level b → sent_place v level b p < total v
  pub at : (b p : ℕ) → b < block_count v level → p < block_length v level b → get_or (sent_order v level) (sent_place v level b p) (record { of = 0; at = 0 }) ≡ record { of = b; at = p }
  -- and at each place one is sent
  pub back : (q : ℕ) → q < total v → Stood v level q (get_or (sent_order v level) q (record { of = 0; at = 0 }))

abbrev pub Sending : Type 0
Sending = (v level : ℕ) → Lawful v level → SentOnce v level

-- what is sent, gathered by its places, is the blocks again
abbrev pub DealGather : Type 0
DealGather =
    (v level : ℕ) → Lawful v level → (codewords : List ℕ) → length codewords ≡ data_count v level → (b : ℕ) → b < block_count v level
    → gathered v level (λ q. get_or (sent v level codewords) q 0) b ≡ block v level codewords b

-- "data fills the blocks in order": the data of the blocks is the data
abbrev pub DataBack : Type 0
DataBack =
    (v level : ℕ) → Lawful v level → (codewords : List ℕ) → length codewords ≡ data_count v level → data_of v level (block v level codewords) ≡ codewords
