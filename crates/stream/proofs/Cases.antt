-- Cases a, b and c of the paper: the data codewords of each, computed.
use mathlib.Core.Path.{◌≡◌}
use mathlib.Core.List.{List, [], ◌∷◌}
use Prim.Native.Nat.{ℕ}
use Rattle.basics.specs.Bits.{bits, number, number_after, bytes}
use Rattle.basics.specs.Lists.{same, place_in}
use Rattle.tables.specs.Tables.{count_width, data_count, total, totals, check_count, check_rows, block_count, block_rows}
use Rattle.cursor.proofs.Bits.{same_lists}
use Rattle.stream.specs.Stream.{alphabet, code_of, numeric_bits, alphanumeric_bits, body, segments, pads, whole_bytes, padded, data_codewords}

-- "1-M, numeric 01234567: data 10 20 0C 56 61 80 EC 11 EC 11 EC 11 EC 11 EC 11"
abbrev pub case_a : List ℕ
case_a = 0x10 ∷ 0x20 ∷ 0x0C ∷ 0x56 ∷ 0x61 ∷ 0x80 ∷ 0xEC ∷ 0x11 ∷ 0xEC ∷ 0x11 ∷ 0xEC ∷ 0x11 ∷ 0xEC ∷ 0x11 ∷ 0xEC ∷ 0x11 ∷ []

-- "1-H, alphanumeric AC-42: data 20 29 CE E7 21 00 EC 11 EC"
abbrev pub case_b : List ℕ
case_b = 0x20 ∷ 0x29 ∷ 0xCE ∷ 0xE7 ∷ 0x21 ∷ 0x00 ∷ 0xEC ∷ 0x11 ∷ 0xEC ∷ []

-- "1-L, empty list: 00, then EC 11 nine times"
abbrev pub case_c : List ℕ
case_c =
    0x00 ∷ 0xEC ∷ 0x11 ∷ 0xEC ∷ 0x11 ∷ 0xEC ∷ 0x11 ∷ 0xEC ∷ 0x11 ∷ 0xEC ∷ 0x11 ∷ 0xEC ∷ 0x11 ∷ 0xEC ∷ 0x11 ∷ 0xEC ∷ 0x11 ∷ 0xEC ∷ 0x11 ∷ []

-- "01234567" and "AC-42"
abbrev pub digits : List ℕ
digits = 48 ∷ 49 ∷ 50 ∷ 51 ∷ 52 ∷ 53 ∷ 54 ∷ 55 ∷ []

abbrev pub letters : List ℕ
letters = 65 ∷ 67 ∷ 45 ∷ 52 ∷ 50 ∷ []

pub case_a_is : data_codewords 1 1 (1 ∷ 8 ∷ []) digits ≡ case_a
unfolding data_codewords padded whole_bytes pads segments body numeric_bits code_of place_in alphabet bits number number_after bytes same count_width data_count total totals check_count check_rows block_count block_rows
case_a_is = same_lists (data_codewords 1 1 (1 ∷ 8 ∷ []) digits) case_a tt

pub case_b_is : data_codewords 1 3 (2 ∷ 5 ∷ []) letters ≡ case_b
unfolding data_codewords padded whole_bytes pads segments body alphanumeric_bits code_of place_in alphabet bits number number_after bytes same count_width data_count total totals check_count check_rows block_count block_rows
case_b_is = same_lists (data_codewords 1 3 (2 ∷ 5 ∷ []) letters) case_b tt

pub case_c_is : data_codewords 1 0 [] [] ≡ case_c
unfolding data_codewords padded whole_bytes pads segments bits number number_after bytes same data_count total totals check_count check_rows block_count block_rows
case_c_is = same_lists (data_codewords 1 0 [] []) case_c tt
