-- A message as bits and data codewords. A message is a payload and a list of pairs: mode, count.
use Rattle.std.specs.Prelude.{◌≡◌, Bool, true, false, cond, ◌&&◌, ◌||◌, List, [], ◌∷◌, ◌++◌, ℕ, zero, suc, ◌+◌, ◌-◌, ◌*◌, ◌/◌, ◌%◌, min, leb, ltb, eqb, length, get_or, take, drop, replicate}
use Rattle.basics.specs.Bits.{bits, byte_bits, bytes}
use Rattle.basics.specs.Lists.{each, place_in, AtMost}
use Rattle.tables.specs.Tables.{last_version, data_count, count_width}

-- ---- characters

-- "Codes: 0-9 are 0 to 9, A-Z are 10 to 35, then space 36, $ 37, % 38, * 39, + 40, - 41, . 42, / 43, : 44": the characters, in the order of their codes
unfoldable pub alphabet : List ℕ
alphabet =
    48 ∷ 49 ∷ 50 ∷ 51 ∷ 52 ∷ 53 ∷ 54 ∷ 55 ∷ 56 ∷ 57 ∷
    65 ∷ 66 ∷ 67 ∷ 68 ∷ 69 ∷ 70 ∷ 71 ∷ 72 ∷ 73 ∷ 74 ∷ 75 ∷ 76 ∷ 77 ∷ 78 ∷ 79 ∷ 80 ∷ 81 ∷ 82 ∷ 83 ∷ 84 ∷ 85 ∷ 86 ∷ 87 ∷ 88 ∷ 89 ∷ 90 ∷
    32 ∷ 36 ∷ 37 ∷ 42 ∷ 43 ∷ 45 ∷ 46 ∷ 47 ∷ 58 ∷ []

-- a character's code, and the character of a code
unfoldable pub code_of : ℕ → ℕ
code_of c = place_in alphabet c

unfoldable pub character : ℕ → ℕ
character x = get_or alphabet x 0

-- "modes numeric (1), alphanumeric (2), byte (4)"
unfoldable pub known : ℕ → Bool
known mode = eqb mode 1 || eqb mode 2 || eqb mode 4

-- a character of its segment's mode
unfoldable pub in_mode : (mode c : ℕ) → Bool
in_mode mode c = cond (eqb mode 1) (ltb (code_of c) 10) (cond (eqb mode 2) (ltb (code_of c) 45) true)

-- ---- segments to bits

-- "Numeric: three digits as one number in 10 bits, two left in 7, one left in 4"
unfoldable pub numeric_bits : List ℕ → List ℕ
numeric_bits [] = []
numeric_bits (a ∷ []) = bits 4 (code_of a)
numeric_bits (a ∷ b ∷ []) = bits 7 (10 * code_of a + code_of b)
numeric_bits (a ∷ b ∷ c ∷ rest) = bits 10 (100 * code_of a + 10 * code_of b + code_of c) ++ numeric_bits rest

-- "Alphanumeric: a pair a, b as 45a + b in 11 bits, one left in 6"
unfoldable pub alphanumeric_bits : List ℕ → List ℕ
alphanumeric_bits [] = []
alphanumeric_bits (a ∷ []) = bits 6 (code_of a)
alphanumeric_bits (a ∷ b ∷ rest) = bits 11 (45 * code_of a + code_of b) ++ alphanumeric_bits rest

-- "Byte: 8 bits"
unfoldable pub body : (mode : ℕ) → List ℕ → List ℕ
body mode chars = cond (eqb mode 1) (numeric_bits chars) (cond (eqb mode 2) (alphanumeric_bits chars) (byte_bits chars))

-- the number of bits in a body of so many characters
unfoldable pub body_width : (mode count : ℕ) → ℕ
body_width mode count =
    cond (eqb mode 1) (count / 3 * 10 + get_or (0 ∷ 4 ∷ 7 ∷ []) (count % 3) 0) (cond (eqb mode 2) (count / 2 * 11 + count % 2 * 6) (8 * count))

-- "Each segment: 4-bit mode, count, body"; "Segments take the payload in order, one byte a character"
unfoldable pub segments : (v : ℕ) (list payload : List ℕ) → List ℕ
segments v [] payload = []
segments v (mode ∷ []) payload = []
segments v (mode ∷ count ∷ list) payload =
    bits 4 mode ++ bits (count_width v mode) count ++ body mode (take count payload) ++ segments v list (drop count payload)

-- the number of those bits, from the list alone
unfoldable pub segments_width : (v : ℕ) → List ℕ → ℕ
segments_width v [] = 0
segments_width v (mode ∷ []) = 0
segments_width v (mode ∷ count ∷ list) = 4 + count_width v mode + body_width mode count + segments_width v list

-- ---- what a message must meet, refusals 2 to 5

-- no odd length, and every mode known
unfoldable pub lawful_list : List ℕ → Bool
lawful_list [] = true
lawful_list (mode ∷ []) = false
lawful_list (mode ∷ count ∷ list) = known mode && lawful_list list

-- the sum of the counts
unfoldable pub counts : List ℕ → ℕ
counts [] = 0
counts (mode ∷ []) = 0
counts (mode ∷ count ∷ list) = count + counts list

-- every character in its segment's mode
unfoldable pub lawful_characters : (list payload : List ℕ) → Bool
lawful_characters [] payload = true
lawful_characters (mode ∷ []) payload = true
lawful_characters (mode ∷ count ∷ list) payload = each (in_mode mode) (take count payload) && lawful_characters list (drop count payload)

-- it needs no more data bits than the version has at the level; the end mark need not fit, and nothing fits a version outside 1 to 10
unfoldable pub fits : (v level : ℕ) → List ℕ → Bool
fits v level list = leb 1 v && leb v last_version && leb (segments_width v list) (8 * data_count v level)

-- ---- padding

-- "236 and 17 (hex EC, 11) in turn"
unfoldable pub pads : ℕ → List ℕ
pads zero = []
pads (suc zero) = 236 ∷ []
pads (suc (suc n)) = 236 ∷ 17 ∷ pads n

-- "up to four zero bits as fit, zeros to a whole byte"
unfoldable pub whole_bytes : (most : ℕ) → List ℕ → List ℕ
whole_bytes most bs =
    let ended = bs ++ replicate (min 4 (8 * most - length bs)) 0 in
    bytes ((length ended + 7) / 8) (ended ++ replicate 7 0)

-- "After the last segment: up to four zero bits as fit, zeros to a whole byte, then 236 and 17 (hex EC, 11) in turn"
unfoldable pub padded : (most : ℕ) → List ℕ → List ℕ
padded most bs = let front = whole_bytes most bs in front ++ pads (most - length front)

-- the data codewords of a message that fits
unfoldable pub data_codewords : (v level : ℕ) (list payload : List ℕ) → List ℕ
data_codewords v level list payload = padded (data_count v level) (segments v list payload)

-- ---- a message that fits a version and level

pub record LawfulMessage (v level : ℕ) (payload list : List ℕ) : Type 0 where
  pub bytes : AtMost 255 payload
  pub modes : lawful_list list ≡ true
  pub sums : counts list ≡ length payload
  pub characters : lawful_characters list payload ≡ true
  pub fit : fits v level list ≡ true
