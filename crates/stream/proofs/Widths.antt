-- Widths of count fields and bodies: how wide at most, and that a body has the width that its count gives.
use mathlib.Core.Path.{◌≡◌, refl, ap, ap₂, ◌∙◌}
use mathlib.Core.Bool.{Bool, true, false, cond}
use mathlib.Core.List.{List, [], ◌∷◌, ◌++◌}
use Prim.Native.Nat.{ℕ, zero, suc, ◌+◌, ◌*◌, ◌/◌, ◌%◌, ◌<◌, ◌≤◌}
use native.Mathlib.Nat.{not-suc-le-zero}
use native.Mathlib.Omega.{arith}
use lib.Dec.{leb, eqb}
use lib.ListN.{length, get_or, take, drop, length-append, length-drop}
use lib.Seq.{length-take-le}
use Rattle.basics.specs.Bits.{bits, byte_bits}
use Rattle.basics.specs.Lists.{AtMost}
use Rattle.basics.proofs.Bits.{length_bits, length_byte_bits, bits_le, byte_bits_le}
use Rattle.basics.proofs.Lists.{at_most_append}
use Rattle.tables.specs.Tables.{count_width}
use Rattle.stream.specs.Put.{segment_bits}
use Rattle.stream.specs.Stream.{numeric_bits, alphanumeric_bits, body, body_width, segments, segments_width, counts, code_of}

-- one of two choices is within what both are within
pub within : (t : Bool) (a b m : ℕ) → a ≤ m → b ≤ m → cond t a b ≤ m
within true a b m ha hb = ha
within false a b m ha hb = hb

pub count_width_le : (v mode : ℕ) → count_width v mode ≤ 16
unfolding count_width
count_width_le v mode =
    within (eqb mode 1) (cond (leb v 9) 10 12) _ 16 (within (leb v 9) 10 12 16 (omega arith) (omega arith))
    (within (eqb mode 2) (cond (leb v 9) 9 11) _ 16 (within (leb v 9) 9 11 16 (omega arith) (omega arith))
    (within (eqb mode 4) (cond (leb v 9) 8 16) 0 16 (within (leb v 9) 8 16 16 (omega arith) (omega arith)) (omega arith)))

-- what is left of a run of digits
pub left_width : (r : ℕ) → r < 3 → get_or (0 ∷ 4 ∷ 7 ∷ []) r 0 ≤ 5 * r
left_width zero h = omega arith
left_width (suc zero) h = omega arith
left_width (suc (suc zero)) h = omega arith
left_width (suc (suc (suc r))) h = absurd (omega arith)

pub body_width_le : (mode count : ℕ) → body_width mode count ≤ 8 * count
unfolding body_width
body_width_le mode count =
    within (eqb mode 1) (count / 3 * 10 + get_or (0 ∷ 4 ∷ 7 ∷ []) (count % 3) 0) _ (8 * count) (omega (arith, left_width (count % 3) (omega arith)))
    (within (eqb mode 2) (count / 2 * 11 + count % 2 * 6) (8 * count) (8 * count) (omega arith) (omega arith))

-- ---- bodies and segments have their widths

next_three : (n x y : ℕ) → x ≡ 10 + (n / 3 * 10 + y) → x ≡ suc (suc (suc n)) / 3 * 10 + y
next_three n x y e = e ∙ rw (three n) (omega arith)
  where
    three : (n : ℕ) → suc (suc (suc n)) / 3 ≡ n / 3 + 1
    three n = omega arith

pub numeric_length : (chars : List ℕ) → length (numeric_bits chars) ≡ length chars / 3 * 10 + get_or (0 ∷ 4 ∷ 7 ∷ []) (length chars % 3) 0
unfolding numeric_bits
numeric_length [] = refl
numeric_length (a ∷ []) = length_bits 4 _
numeric_length (a ∷ b ∷ []) = length_bits 7 _
numeric_length (a ∷ b ∷ c ∷ rest) =
    length-append (bits 10 (100 * code_of a + 10 * code_of b + code_of c)) (numeric_bits rest)
    ∙ ap (λ (n : ℕ). n + length (numeric_bits rest)) (length_bits 10 (100 * code_of a + 10 * code_of b + code_of c))
    ∙ ap (λ (n : ℕ). 10 + n) (numeric_length rest)
    ∙ next_three (length rest) _ _ refl
    ∙ ap (λ (r : ℕ). suc (suc (suc (length rest))) / 3 * 10 + get_or (0 ∷ 4 ∷ 7 ∷ []) r 0) (left (length rest))
  where
    left : (n : ℕ) → n % 3 ≡ suc (suc (suc n)) % 3
    left n = omega arith

pub alphanumeric_length : (chars : List ℕ) → length (alphanumeric_bits chars) ≡ length chars / 2 * 11 + length chars % 2 * 6
unfolding alphanumeric_bits
alphanumeric_length [] = refl
alphanumeric_length (a ∷ []) = length_bits 6 _
alphanumeric_length (a ∷ b ∷ rest) =
    length-append (bits 11 (45 * code_of a + code_of b)) (alphanumeric_bits rest)
    ∙ ap (λ (n : ℕ). n + length (alphanumeric_bits rest)) (length_bits 11 (45 * code_of a + code_of b))
    ∙ ap (λ (n : ℕ). 11 + n) (alphanumeric_length rest)
    ∙ two (length rest)
  where
    two : (n : ℕ) → 11 + (n / 2 * 11 + n % 2 * 6) ≡ suc (suc n) / 2 * 11 + suc (suc n) % 2 * 6
    two n = omega arith

pub body_length : (mode : ℕ) (chars : List ℕ) → length (body mode chars) ≡ body_width mode (length chars)
unfolding body body_width
body_length mode chars = pick (eqb mode 1) (eqb mode 2)
  where
    pick : (t u : Bool)
        → length (cond t (numeric_bits chars) (cond u (alphanumeric_bits chars) (byte_bits chars)))
        ≡ cond t (length chars / 3 * 10 + get_or (0 ∷ 4 ∷ 7 ∷ []) (length chars % 3) 0) (cond u (length chars / 2 * 11 + length chars % 2 * 6) (8 * length chars))
    pick true u = numeric_length chars
    pick false true = alphanumeric_length chars
    pick false false = length_byte_bits chars

-- the number of those bits, from the list alone
pub segments_length : (v : ℕ) (list payload : List ℕ) → counts list ≤ length payload → length (segments v list payload) ≡ segments_width v list
unfolding segments segments_width counts
segments_length v [] payload h = refl
segments_length v (mode ∷ []) payload h = refl
segments_length v (mode ∷ count ∷ list) payload h =
    let chars : length (take count payload) ≡ count = length-take-le count payload (omega arith) in
    length-append (bits 4 mode ++ bits (count_width v mode) count ++ body mode (take count payload)) (segments v list (drop count payload))
    ∙ ap₂ ◌+◌ (simp (length-append, length_bits, body_length, chars)) (segments_length v list (drop count payload) (rw length-drop (omega arith)))

-- ---- they are bits

pub numeric_le : (chars : List ℕ) → AtMost 1 (numeric_bits chars)
unfolding numeric_bits
numeric_le [] = λ i h. absurd (not-suc-le-zero h)
numeric_le (a ∷ []) = bits_le 4 (code_of a)
numeric_le (a ∷ b ∷ []) = bits_le 7 (10 * code_of a + code_of b)
numeric_le (a ∷ b ∷ c ∷ rest) =
    at_most_append 1 (bits 10 (100 * code_of a + 10 * code_of b + code_of c)) (numeric_bits rest) (bits_le 10 (100 * code_of a + 10 * code_of b + code_of c)) (numeric_le rest)

pub alphanumeric_le : (chars : List ℕ) → AtMost 1 (alphanumeric_bits chars)
unfolding alphanumeric_bits
alphanumeric_le [] = λ i h. absurd (not-suc-le-zero h)
alphanumeric_le (a ∷ []) = bits_le 6 (code_of a)
alphanumeric_le (a ∷ b ∷ rest) =
    at_most_append 1 (bits 11 (45 * code_of a + code_of b)) (alphanumeric_bits rest) (bits_le 11 (45 * code_of a + code_of b)) (alphanumeric_le rest)

pub body_le : (mode : ℕ) (chars : List ℕ) → AtMost 1 (body mode chars)
unfolding body
body_le mode chars = pick (eqb mode 1) (eqb mode 2)
  where
    pick : (t u : Bool) → AtMost 1 (cond t (numeric_bits chars) (cond u (alphanumeric_bits chars) (byte_bits chars)))
    pick true u = numeric_le chars
    pick false true = alphanumeric_le chars
    pick false false = byte_bits_le chars

pub segment_le : (v mode : ℕ) (chars : List ℕ) → AtMost 1 (segment_bits v mode chars)
segment_le v mode chars =
    at_most_append 1 (bits 4 mode ++ bits (count_width v mode) (length chars)) (body mode chars)
    (at_most_append 1 (bits 4 mode) (bits (count_width v mode) (length chars)) (bits_le 4 mode) (bits_le (count_width v mode) (length chars))) (body_le mode chars)

pub segments_le : (v : ℕ) (list payload : List ℕ) → AtMost 1 (segments v list payload)
unfolding segments
segments_le v [] payload = λ i h. absurd (not-suc-le-zero h)
segments_le v (mode ∷ []) payload = λ i h. absurd (not-suc-le-zero h)
segments_le v (mode ∷ count ∷ list) payload =
    at_most_append 1 (bits 4 mode ++ bits (count_width v mode) count ++ body mode (take count payload)) (segments v list (drop count payload))
    (at_most_append 1 (bits 4 mode ++ bits (count_width v mode) count) (body mode (take count payload))
    (at_most_append 1 (bits 4 mode) (bits (count_width v mode) count) (bits_le 4 mode) (bits_le (count_width v mode) count)) (body_le mode (take count payload)))
    (segments_le v list (drop count payload))
