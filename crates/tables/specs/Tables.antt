-- The version table, and what follows from it. A version is 1 to 10, a level 0 to 3 for L, M, Q, H.
-- Each table has an empty row in front, so that a row is found by its version.
use Rattle.std.specs.Prelude.{cond, ◌&&◌, List, [], ◌∷◌, ℕ, ◌+◌, ◌-◌, ◌*◌, ◌/◌, ◌%◌, ◌≤◌, leb, eqb, get_or}
use Rattle.basics.specs.Sums.{one, sum}

-- a list of four
abbrev row : ℕ → ℕ → ℕ → ℕ → List ℕ
row a b c d = a ∷ b ∷ c ∷ d ∷ []

-- "total codewords", versions 1 to 10
unfoldable pub totals : List ℕ
totals = 0 ∷ 26 ∷ 44 ∷ 70 ∷ 100 ∷ 134 ∷ 172 ∷ 196 ∷ 242 ∷ 292 ∷ 346 ∷ []

-- "check per block L M Q H"
unfoldable pub check_rows : List (List ℕ)
check_rows =
    [] ∷ row 7 10 13 17 ∷ row 10 16 22 28 ∷ row 15 26 18 22 ∷ row 20 18 26 16 ∷ row 26 24 18 22 ∷
    row 18 16 24 28 ∷ row 20 18 18 26 ∷ row 24 22 22 26 ∷ row 30 22 20 24 ∷ row 18 26 24 28 ∷ []

-- "blocks L M Q H"
unfoldable pub block_rows : List (List ℕ)
block_rows =
    [] ∷ row 1 1 1 1 ∷ row 1 1 1 1 ∷ row 1 1 2 2 ∷ row 1 2 2 4 ∷ row 1 2 4 4 ∷
    row 2 4 4 4 ∷ row 2 4 6 5 ∷ row 2 4 6 6 ∷ row 2 5 8 8 ∷ row 4 5 8 8 ∷ []

-- "alignment"
unfoldable pub centre_rows : List (List ℕ)
centre_rows =
    [] ∷ [] ∷ (6 ∷ 18 ∷ []) ∷ (6 ∷ 22 ∷ []) ∷ (6 ∷ 26 ∷ []) ∷ (6 ∷ 30 ∷ []) ∷ (6 ∷ 34 ∷ []) ∷
    (6 ∷ 22 ∷ 38 ∷ []) ∷ (6 ∷ 24 ∷ 42 ∷ []) ∷ (6 ∷ 26 ∷ 46 ∷ []) ∷ (6 ∷ 28 ∷ 50 ∷ []) ∷ []

-- "Versions 1 to 10"
abbrev pub last_version : ℕ
last_version = 10

-- "A matrix has side s = 17 + 4v"
abbrev pub side : ℕ → ℕ
side v = 17 + 4 * v

unfoldable pub total : ℕ → ℕ
total v = get_or totals v 0

unfoldable pub check_count : (v level : ℕ) → ℕ
check_count v level = get_or (get_or check_rows v []) level 0

unfoldable pub block_count : (v level : ℕ) → ℕ
block_count v level = get_or (get_or block_rows v []) level 0

unfoldable pub centres : ℕ → List ℕ
centres v = get_or centre_rows v []

-- "Data codewords D = total − n·B for n checks and B blocks"
unfoldable pub data_count : (v level : ℕ) → ℕ
data_count v level = total v - check_count v level * block_count v level

-- floor(D/B), and the number of blocks that hold no more: "The first B − (D mod B) blocks"
unfoldable pub short_length : (v level : ℕ) → ℕ
short_length v level = data_count v level / block_count v level

unfoldable pub short_blocks : (v level : ℕ) → ℕ
short_blocks v level = block_count v level - data_count v level % block_count v level

-- "The first B − (D mod B) blocks hold floor(D/B) data codewords, the others one more"
unfoldable pub block_data : (v level b : ℕ) → ℕ
block_data v level b = short_length v level + one (leb (short_blocks v level) b)

-- "data fills the blocks in order": the data codewords before block b
unfoldable pub block_start : (v level b : ℕ) → ℕ
block_start v level b = sum b (block_data v level)

-- data codewords and checks
unfoldable pub block_length : (v level b : ℕ) → ℕ
block_length v level b = block_data v level b + check_count v level

-- "the bound is 2t + e ≤ n at every version and level"
unfoldable pub room : (v level : ℕ) → ℕ
room v level = check_count v level

-- "Count widths for modes 1, 2, 4: versions 1 to 9: 10, 9, 8; version 10: 12, 11, 16"; no other mode has a count
unfoldable pub count_width : (v mode : ℕ) → ℕ
count_width v mode =
    cond (eqb mode 1) (cond (leb v 9) 10 12) (cond (eqb mode 2) (cond (leb v 9) 9 11) (cond (eqb mode 4) (cond (leb v 9) 8 16) 0))

-- "8·total plus 7 more in versions 2 to 6 and none more otherwise"
unfoldable pub surplus : ℕ → ℕ
surplus v = cond (leb 2 v && leb v 6) 7 0

-- a version and a level of the paper
pub record Lawful (v level : ℕ) : Type 0 where
  pub least : 1 ≤ v
  pub most : v ≤ last_version
  pub levels : level ≤ 3

-- the most that any version and level has of each: sizes of buffers
abbrev pub most_side : ℕ
most_side = 57

abbrev pub most_modules : ℕ
most_modules = 3249

abbrev pub most_codewords : ℕ
most_codewords = 346

abbrev pub most_data : ℕ
most_data = 274

abbrev pub most_checks : ℕ
most_checks = 30

abbrev pub most_blocks : ℕ
most_blocks = 8

-- "payload buffer under 652 bytes or segment buffer under 308 numbers"
abbrev pub most_payload : ℕ
most_payload = 652

abbrev pub most_list : ℕ
most_list = 308
