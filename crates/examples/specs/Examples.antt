-- The paper's examples at the edges, a to l: one list, and one statement that what the definitions give is what the paper names.
use Rattle.std.specs.Prelude.{◌≡◌, List, [], ◌∷◌, ◌++◌, map, ℕ, replicate}
use Rattle.basics.specs.Lists.{from, up_to, joined}
use Rattle.tables.specs.Tables.{block_data, block_count, check_count}
use Rattle.field.specs.Field.{mul_n, pow_n}
use Rattle.code.specs.Code.{generator, checks}
use Rattle.words.specs.Words.{format_word, format_bits, version_word}
use Rattle.stream.specs.Stream.{data_codewords}
use Rattle.penalty.specs.Penalty.{runs, squares, share}
use Rattle.writer.specs.Writer.{taken, refusal, request}

-- an example: its letter, what the definitions give, and what the paper names
pub record Example : Type 0 where
  pub letter : ℕ
  pub found : List ℕ
  pub named : List ℕ

abbrev pub gives : (letter : ℕ) (found named : List ℕ) → Example
gives l f n = record { letter = l; found = f; named = n }

-- the refusal of so many digits at 10-L, or 0
unfoldable pub refused_digits : ℕ → ℕ
refused_digits n = refusal (request (replicate n 48) (1 ∷ n ∷ []) 0 10 8) 3249

-- a line with a run of r dark modules between light ones
unfoldable pub line_of : ℕ → List ℕ
line_of r = 0 ∷ replicate r 1 ++ (0 ∷ [])

-- EC 11, n times
unfoldable pub pad_pairs : ℕ → List ℕ
pad_pairs n = joined (replicate n (0xEC ∷ 0x11 ∷ []))

unfoldable pub a_data : List ℕ
unfolding pad_pairs
a_data = 0x10 ∷ 0x20 ∷ 0x0C ∷ 0x56 ∷ 0x61 ∷ 0x80 ∷ pad_pairs 5

unfoldable pub examples : List Example
unfolding refused_digits line_of pad_pairs a_data
examples =
    -- a. 1-M, numeric 01234567: data 10 20 0C 56 61 80 EC 11 .., checks A5 24 D4 C1 ED 36 C7 87 2C 55
    gives 97 (data_codewords 1 1 (1 ∷ 8 ∷ []) (48 ∷ 49 ∷ 50 ∷ 51 ∷ 52 ∷ 53 ∷ 54 ∷ 55 ∷ []) ++ checks (check_count 1 1) a_data)
    (a_data ++ (0xA5 ∷ 0x24 ∷ 0xD4 ∷ 0xC1 ∷ 0xED ∷ 0x36 ∷ 0xC7 ∷ 0x87 ∷ 0x2C ∷ 0x55 ∷ []))
    -- b. 1-H, alphanumeric AC-42: data 20 29 CE E7 21 00 EC 11 EC
    ∷ gives 98 (data_codewords 1 3 (2 ∷ 5 ∷ []) (65 ∷ 67 ∷ 45 ∷ 52 ∷ 50 ∷ [])) (0x20 ∷ 0x29 ∷ 0xCE ∷ 0xE7 ∷ 0x21 ∷ 0x00 ∷ 0xEC ∷ 0x11 ∷ 0xEC ∷ [])
    -- c. 1-L, empty list: 00, then EC 11 nine times
    ∷ gives 99 (data_codewords 1 0 [] []) (0x00 ∷ pad_pairs 9)
    -- d. M, mask 5: format hex 40CE
    ∷ gives 100 (format_word (format_bits 1 5) ∷ []) (0x40CE ∷ [])
    -- e. Version words 7 to 10: hex 07C94, 085BC, 09A99, 0A4D3
    ∷ gives 101 (map version_word (from 7 4)) (0x07C94 ∷ 0x085BC ∷ 0x09A99 ∷ 0x0A4D3 ∷ [])
    -- f. 5-Q blocks: 15, 15, 16, 16 data
    ∷ gives 102 (map (block_data 5 2) (up_to (block_count 5 2))) (15 ∷ 15 ∷ 16 ∷ 16 ∷ [])
    -- g. n = 7: generator exponents 0, 87, 229, 146, 149, 238, 102, 21
    ∷ gives 103 (generator 7) (map pow_n (0 ∷ 87 ∷ 229 ∷ 146 ∷ 149 ∷ 238 ∷ 102 ∷ 21 ∷ []))
    -- h. Level L: 17 bytes take version 1, 18 take version 2
    ∷ gives 104 (taken 0 0 (4 ∷ 17 ∷ []) ∷ taken 0 0 (4 ∷ 18 ∷ []) ∷ []) (1 ∷ 2 ∷ [])
    -- i. 10-L: 652 digits fit, 653 get refusal 5
    ∷ gives 105 (refused_digits 652 ∷ refused_digits 653 ∷ []) (0 ∷ 5 ∷ [])
    -- j. Runs of 4, 5, 6 score 0, 3, 4; a 3 by 3 dark square has four 2 by 2 squares, 12
    ∷ gives 106 (runs (line_of 4) ∷ runs (line_of 5) ∷ runs (line_of 6) ∷ squares 3 (replicate 3 (replicate 3 1)) ∷ []) (0 ∷ 3 ∷ 4 ∷ 12 ∷ [])
    -- k. Side 25: 374 dark add 10, 375 add 20
    ∷ gives 107 (share 25 374 ∷ share 25 375 ∷ []) (10 ∷ 20 ∷ [])
    -- l. 2 · 128 = 29 in the field
    ∷ gives 108 (mul_n 2 128 ∷ []) (29 ∷ [])
    ∷ []

-- the one statement: the examples are a to l, and at each what the definitions give is what the paper names
abbrev pub ExamplesHold : Type 0
ExamplesHold = (map (λ (e : Example). e.letter) examples ≡ from 97 12) × (map (λ (e : Example). e.found) examples ≡ map (λ (e : Example). e.named) examples)
