-- The cut into blocks, and the order in which their codewords are sent.
use Rattle.std.specs.Prelude.{cond, List, [], ◌++◌, map, ℕ, ◌+◌, ◌-◌, ◌*◌, ltb, leb, length, get_or, take, drop}
use Rattle.basics.specs.Lists.{up_to, keep, joined}
use Rattle.basics.specs.Sums.{one, sum}
use Rattle.basics.specs.Walk.{walked}
use Rattle.tables.specs.Tables.{block_count, check_count, data_count, short_length, short_blocks, block_data, block_start, block_length}
use Rattle.code.specs.Code.{checks}

-- a block's data, and its checks after it
abbrev pub with_checks : (n : ℕ) (held : List ℕ) → List ℕ
with_checks n held = held ++ checks n held

-- "data fills the blocks in order": block b
unfoldable pub block : (v level : ℕ) (codewords : List ℕ) (b : ℕ) → List ℕ
block v level codewords b = with_checks (check_count v level) (take (block_data v level b) (drop (block_start v level b) codewords))

-- the checks of block b
unfoldable pub block_checks : (v level : ℕ) (codewords : List ℕ) (b : ℕ) → List ℕ
block_checks v level codewords b = checks (check_count v level) (take (block_data v level b) (drop (block_start v level b) codewords))

-- the data codewords in front, and behind them the checks of each block, in block order: where a block's checks are "written into such a part"
unfoldable pub data_then_checks : (v level : ℕ) (codewords : List ℕ) → List ℕ
data_then_checks v level codewords = codewords ++ joined (map (block_checks v level codewords) (up_to (block_count v level)))

-- a codeword's block, and its place in the block
pub record Cell : Type 0 where
  pub of : ℕ
  pub at : ℕ

-- "first data codeword of each block in block order, then the second, and so on, skipping blocks that have run out"
unfoldable pub sent_data : (v level : ℕ) → List Cell
sent_data v level =
    joined (map (λ p. map (λ b. record { of = b; at = p }) (keep (λ b. ltb p (block_data v level b)) (up_to (block_count v level))))
    (up_to (short_length v level + 1)))

-- "then the checks the same way"
unfoldable pub sent_checks : (v level : ℕ) → List Cell
sent_checks v level =
    joined (map (λ p. map (λ b. record { of = b; at = block_data v level b + p }) (up_to (block_count v level))) (up_to (check_count v level)))

unfoldable pub sent_order : (v level : ℕ) → List Cell
sent_order v level = sent_data v level ++ sent_checks v level

-- the codewords of all blocks as they are sent
unfoldable pub in_order : (v level : ℕ) → (blocks : List (List ℕ)) → List ℕ
in_order v level blocks = map (λ c. get_or (get_or blocks c.of []) c.at 0) (sent_order v level)

unfoldable pub sent : (v level : ℕ) (codewords : List ℕ) → List ℕ
sent v level codewords = in_order v level (map (block v level codewords) (up_to (block_count v level)))

-- the place in the sent order of codeword p of block b, in closed form: D data codewords in B blocks, short in each of the first few and one more in the others
unfoldable pub place_by : (D B short few b p : ℕ) → ℕ
place_by D B short few b p =
    let held = short + one (leb few b) in
    let row = cond (ltb p short) (p * B + b) (p * B + (b - few)) in
    cond (ltb p held) row (D + (p - held) * B + b)

unfoldable pub sent_place : (v level b p : ℕ) → ℕ
sent_place v level b p = place_by (data_count v level) (block_count v level) (short_length v level) (short_blocks v level) b p

-- a list with codewords put at their places
unfoldable pub dealt : (place : ℕ → ℕ) (codewords out : List ℕ) → List ℕ
dealt place codewords out = walked place (λ k. get_or codewords k 0) (length codewords) out

-- ---- and back: what was received, by its place in the sent order, cut into blocks again

-- block b of what stands at each place of the sent order
unfoldable pub gathered : (v level : ℕ) (at : ℕ → ℕ) (b : ℕ) → List ℕ
gathered v level at b = map (λ p. at (sent_place v level b p)) (up_to (block_length v level b))

-- the blocks one after the other
unfoldable pub gathered_all : (v level : ℕ) (at : ℕ → ℕ) → List ℕ
gathered_all v level at = joined (map (gathered v level at) (up_to (block_count v level)))

-- where block b starts in blocks that stand one after the other
unfoldable pub block_offset : (v level b : ℕ) → ℕ
block_offset v level b = sum b (block_length v level)

-- block b of them
unfoldable pub block_of : (v level : ℕ) (blocks : List ℕ) (b : ℕ) → List ℕ
block_of v level blocks b = take (block_length v level b) (drop (block_offset v level b) blocks)

-- the data codewords of all blocks, in block order
unfoldable pub data_of : (v level : ℕ) → (whole : ℕ → List ℕ) → List ℕ
data_of v level whole = joined (map (λ b. take (block_data v level b) (whole b)) (up_to (block_count v level)))
