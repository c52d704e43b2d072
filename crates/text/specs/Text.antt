-- What the program prints for an answer.
use Rattle.std.specs.Prelude.{cond, List, [], ◌∷◌, ◌++◌, ℕ, zero, suc, ◌+◌, ◌/◌, ◌%◌, ltb, get_or, take, drop}
use Prim.Native.String.{String}
use Prim.Native.String as S
use Prim.Native.Char.{code}
use Rattle.basics.specs.Lists.{joined}

-- a text as bytes
unfoldable pub text : String → List ℕ
text S.[] = []
text (S.◌∷◌ c s) = code c ∷ text s

-- a number in decimal, n digits at the most, no zero in front
unfoldable pub decimal : (n x : ℕ) → List ℕ
decimal zero x = []
decimal (suc n) x = let front = decimal n (x / 10) in cond (ltb x 10) [] front ++ ((48 + x % 10) ∷ [])

-- a number as it is printed: twenty digits hold every number of 64 bits
abbrev pub shown : ℕ → List ℕ
shown x = decimal 20 x

-- "hex is lower case"
unfoldable pub hex_digit : ℕ → ℕ
hex_digit x = cond (ltb x 10) (48 + x) (87 + x)

unfoldable pub hex : List ℕ → List ℕ
hex [] = []
hex (b ∷ bytes) = hex_digit (b / 16) ∷ hex_digit (b % 16) ∷ hex bytes

-- "levels L, M, Q, H (numbered 0, 1, 2, 3)": a level's letter
unfoldable pub letter : (level : ℕ) → ℕ
letter level = get_or (76 ∷ 77 ∷ 81 ∷ 72 ∷ []) level 0

-- a name and a number
abbrev pub field : String → ℕ → List ℕ
field name x = text name ++ shown x

-- pieces with nothing between them, and a line feed behind the last
abbrev pub ended : List (List ℕ) → List ℕ
ended pieces = joined (pieces ++ ((10 ∷ []) ∷ []))

-- ---- the lines of a reading

-- "version 1 level M mask 2"
unfoldable pub first_line : (version level mask : ℕ) → List ℕ
first_line version level mask = ended (field "version " version ∷ text " level " ∷ (letter level ∷ []) ∷ field " mask " mask ∷ [])

-- "differing 0 unreadable 0"
unfoldable pub second_line : (differing unreadable : ℕ) → List ℕ
second_line differing unreadable = ended (field "differing " differing ∷ field " unreadable " unreadable ∷ [])

-- "segment 1 mode 1 count 8"
unfoldable pub segment_line : (k mode count : ℕ) → List ℕ
segment_line k mode count = ended (field "segment " k ∷ field " mode " mode ∷ field " count " count ∷ [])

-- a segment: its line, and below it its bytes in hex
unfoldable pub segment_text : (k mode count : ℕ) (bytes : List ℕ) → List ℕ
segment_text k mode count bytes = ended (segment_line k mode count ∷ hex bytes ∷ [])

-- the segments from segment k on, with the bytes that are left: "Segments number from 1 here; hex is lower case; an empty segment has an
-- empty hex line"
unfoldable pub segment_lines : (k : ℕ) (payload list : List ℕ) → List ℕ
segment_lines k payload [] = []
segment_lines k payload (mode ∷ []) = []
segment_lines k payload (mode ∷ count ∷ list) =
    segment_text k mode count (take count payload) ++ segment_lines (k + 1) (drop count payload) list

-- ---- the whole output

-- "The whole output": the two lines, two lines a segment, "end"
unfoldable pub reading_text : (version level mask : ℕ) (payload list : List ℕ) (differing unreadable : ℕ) → List ℕ
reading_text version level mask payload list differing unreadable =
    ended (first_line version level mask ∷ second_line differing unreadable ∷ segment_lines 1 payload list ∷ text "end" ∷ [])

-- "A refusal prints one line, `refused N`"
unfoldable pub refusal_text : ℕ → List ℕ
refusal_text n = ended (field "refused " n ∷ [])

-- a buffer of so many bytes has room for every text of `most_payload` bytes and `most_list` numbers
abbrev pub most_text : ℕ
most_text = 16384
