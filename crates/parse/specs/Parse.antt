-- Data codewords back to a message, or the first fault.
use Rattle.std.specs.Prelude.{Bool, true, false, cond, ◌&&◌, ◌||◌, List, [], ◌∷◌, ◌++◌, ℕ, zero, suc, ◌+◌, ◌/◌, ◌%◌, leb, ltb, eqb, length, take, drop}
use Rattle.basics.specs.Bits.{byte_bits, number, bytes}
use Rattle.tables.specs.Tables.{count_width}
use Rattle.stream.specs.Stream.{character, known, body_width}

-- ---- a body: its characters, and whether its groups are in range

-- "Numeric: three digits as one number in 10 bits, two left in 7, one left in 4"
unfoldable pub digits : (count : ℕ) → List ℕ → List ℕ
digits zero bs = []
digits (suc zero) bs = character (number (take 4 bs)) ∷ []
digits (suc (suc zero)) bs = let x = number (take 7 bs) in character (x / 10) ∷ character (x % 10) ∷ []
digits (suc (suc (suc n))) bs =
    let x = number (take 10 bs) in character (x / 100) ∷ character (x / 10 % 10) ∷ character (x % 10) ∷ digits n (drop 10 bs)

-- "Groups above 999, 99, 9 .. are refusal 15"
unfoldable pub digits_in_range : (count : ℕ) → List ℕ → Bool
digits_in_range zero bs = true
digits_in_range (suc zero) bs = leb (number (take 4 bs)) 9
digits_in_range (suc (suc zero)) bs = leb (number (take 7 bs)) 99
digits_in_range (suc (suc (suc n))) bs = leb (number (take 10 bs)) 999 && digits_in_range n (drop 10 bs)

-- "Alphanumeric: a pair a, b as 45a + b in 11 bits, one left in 6"
unfoldable pub pairs : (count : ℕ) → List ℕ → List ℕ
pairs zero bs = []
pairs (suc zero) bs = character (number (take 6 bs)) ∷ []
pairs (suc (suc n)) bs = let x = number (take 11 bs) in character (x / 45) ∷ character (x % 45) ∷ pairs n (drop 11 bs)

-- "or, alphanumeric, above 2024, 44"
unfoldable pub pairs_in_range : (count : ℕ) → List ℕ → Bool
pairs_in_range zero bs = true
pairs_in_range (suc zero) bs = leb (number (take 6 bs)) 44
pairs_in_range (suc (suc n)) bs = leb (number (take 11 bs)) 2024 && pairs_in_range n (drop 11 bs)

-- "Byte: 8 bits"; no byte is out of range
unfoldable pub characters : (mode count : ℕ) → List ℕ → List ℕ
characters mode count bs = cond (eqb mode 1) (digits count bs) (cond (eqb mode 2) (pairs count bs) (bytes count bs))

unfoldable pub groups_in_range : (mode count : ℕ) → List ℕ → Bool
groups_in_range mode count bs = cond (eqb mode 1) (digits_in_range count bs) (cond (eqb mode 2) (pairs_in_range count bs) true)

-- ---- the front of the stream

-- what stands at the front: nothing more, a whole segment, or a fault
pub data Front : Type 0 where
  End : Front
  Segment : (mode count : ℕ) → Front
  Refusal : ℕ → Front

-- the rest where the test passes, else a refusal
abbrev pub demand : (test : Bool) (refusal : ℕ) → Front → Front
demand true refusal rest = rest
demand false refusal rest = Refusal refusal

-- "4-bit mode, count": the bits before a body
unfoldable pub head_width : (v mode : ℕ) → ℕ
head_width v mode = 4 + count_width v mode

-- 13: "unknown mode in the stream". 14: "a count field or segment body runs past the data bits". 15: "a group out of range".
-- "Within a segment: mode, count field, whole body length (14), then groups (15)."
unfoldable pub segment : (v mode count : ℕ) → List ℕ → Front
segment v mode count bs =
    let ranged = groups_in_range mode count (drop (head_width v mode) bs) in
    demand (known mode) 13
    (demand (leb (head_width v mode) (length bs)) 14
    (demand (leb (head_width v mode + body_width mode count) (length bs)) 14
    (demand ranged 15
    (Segment mode count))))

-- "Reading: fewer than four bits left, or mode 0, ends the stream"
unfoldable pub ends : List ℕ → Bool
ends bs = ltb (length bs) 4 || eqb (number (take 4 bs)) 0

-- "what follows is ignored"
unfoldable pub front : (v : ℕ) → List ℕ → Front
front v bs =
    let mode = number (take 4 bs) in
    let count = number (take (count_width v mode) (drop 4 bs)) in
    cond (ends bs) End (segment v mode count bs)

-- ---- the whole stream

-- what a stream holds: a message, or the first fault
pub data Parsed : Type 0 where
  Message : (payload list : List ℕ) → Parsed
  Fault : ℕ → Parsed

-- a segment in front of what follows it
abbrev pub in_front : (mode count : ℕ) (chars : List ℕ) → Parsed → Parsed
in_front mode count chars (Message payload list) = Message (chars ++ payload) (mode ∷ count ∷ list)
in_front mode count chars (Fault n) = Fault n

-- "the stream from its front, where the first fault decides". A segment takes four bits or more, so the number of bits is fuel enough.
unfoldable pub parse : (fuel v : ℕ) → List ℕ → Parsed
parse zero v bs = Message [] []
parse (suc fuel) v bs =
    elim (front v bs) [
      | End ↦ Message [] []
      | Segment mode count ↦
          in_front mode count (characters mode count (drop (head_width v mode) bs)) (parse fuel v (drop (head_width v mode + body_width mode count) bs))
      | Refusal n ↦ Fault n
    ]

-- the most data codewords of the versions that share their count widths: 9-L's and 10-L's
abbrev pub most_data : ℕ → ℕ
most_data v = cond (leb v 9) 232 274

-- what the data codewords hold
unfoldable pub message : (v : ℕ) → (codewords : List ℕ) → Parsed
message v codewords = let bs = byte_bits codewords in parse (length bs) v bs
