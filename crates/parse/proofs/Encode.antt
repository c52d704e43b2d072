-- `parse_encode`: the data codewords of a lawful message are read back to that message. The message fits, so each count fits its field;
-- the padding leaves the segments' bits, then up to four zero bits as fit, so that what follows them is the stream's end.
use mathlib.Core.Path.{◌≡◌, refl, sym, ap, ap₂, ◌∙◌}
use mathlib.Core.Bool.{Bool, true, false, cond, ◌||◌}
use mathlib.Core.Logic.{⊎_elim}
use mathlib.Core.List.{List, [], ◌∷◌, ◌++◌, append_assoc, append-nil}
use Prim.Native.Nat.{ℕ, zero, suc, ◌+◌, ◌-◌, ◌*◌, ◌/◌, ◌^◌, ◌<◌, ◌≤◌, min}
use native.Mathlib.Nat.{not-suc-le-zero, min-eq_left, min-eq_right}
use native.Mathlib.Omega.{arith}
use lib.Dec.{T, leb, ltb, eqb, leb→le}
use lib.ListN.{length, take, drop, replicate, length-append, length-drop, length-replicate, get_or-replicate}
use lib.Seq.{take-add, take-append-add, length-take-le}
use borrow.Author.Tests.{lt-ltb, eq-eqb}
use Rattle.basics.specs.Bits.{bits, byte_bits, number_after, number, bytes}
use Rattle.basics.specs.Lists.{AtMost}
use Rattle.basics.proofs.Bits.{length_bits, bits_le, byte_bits_append, byte_bits_le, bits_number, length_bytes}
use Rattle.basics.proofs.Lists.{at_most_append}
use Rattle.cursor.proofs.Bits.{order, at_most_take, at_most_drop}
use Rattle.tables.specs.Tables.{totals, check_rows, block_rows, total, check_count, block_count, count_width, data_count, Lawful}
use Rattle.tables.proofs.Rules.{everywhere, rule}
use Rattle.stream.specs.Stream.{code_of, known, numeric_bits, alphanumeric_bits, body, body_width, segments, segments_width, lawful_list, counts, pads, whole_bytes, padded, data_codewords, LawfulMessage}
use Rattle.stream.proofs.Fitting.{fit_width}
use Rattle.parse.specs.Parse.{End, ends, front, Message, parse, most_data, message}
use Rattle.parse.proofs.Body.{both_left, both_right, by_mode}
use Rattle.parse.proofs.Written.{body_length, CountsFit, segments_read}

-- ---- counts fit their fields

data_most_tested : T (everywhere (λ v level. leb (data_count v level) (most_data v)))
unfolding data_count total totals check_count check_rows block_count block_rows
data_most_tested = tt

pub data_most : (v level : ℕ) → Lawful v level → data_count v level ≤ most_data v
data_most v level l = leb→le _ _ (rule (λ v level. leb (data_count v level) (most_data v)) data_most_tested v level l)

module _ (count : ℕ) where
  digits_fit : (t : Bool) → body_width 1 count ≤ 8 * cond t 232 274 → count < 2 ^ cond t 10 12
  unfolding body_width
  digits_fit true h = omega arith
  digits_fit false h = omega arith

  pairs_fit : (t : Bool) → body_width 2 count ≤ 8 * cond t 232 274 → count < 2 ^ cond t 9 11
  unfolding body_width
  pairs_fit true h = omega arith
  pairs_fit false h = omega arith

  bytes_fit : (t : Bool) → body_width 4 count ≤ 8 * cond t 232 274 → count < 2 ^ cond t 8 16
  unfolding body_width
  bytes_fit true h = omega arith
  bytes_fit false h = omega arith

pub count_fits : (v mode count : ℕ) → known mode ≡ true → body_width mode count ≤ 8 * most_data v → count < 2 ^ count_width v mode
unfolding count_width
count_fits v mode count k h =
    by_mode mode k
    (λ e. rw e (digits_fit count (leb v 9) (rw e at h)))
    (λ e. rw e (pairs_fit count (leb v 9) (rw e at h)))
    (λ e. rw e (bytes_fit count (leb v 9) (rw e at h)))

pub counts_fit : (v : ℕ) (list : List ℕ) → lawful_list list ≡ true → segments_width v list ≤ 8 * most_data v → CountsFit v list
unfolding lawful_list segments_width
counts_fit v [] m h = tt
counts_fit v (mode ∷ []) m h = tt
counts_fit v (mode ∷ count ∷ list) m h = (
  count_fits v mode count (both_left (known mode) (lawful_list list) m) (omega arith),
  counts_fit v list (both_right (known mode) (lawful_list list) m) (omega arith),
)

-- ---- the bits of the segments

numeric_le : (cs : List ℕ) → AtMost 1 (numeric_bits cs)
unfolding numeric_bits
numeric_le [] = λ i h. absurd (not-suc-le-zero h)
numeric_le (a ∷ []) = bits_le 4 (code_of a)
numeric_le (a ∷ b ∷ []) = bits_le 7 (10 * code_of a + code_of b)
numeric_le (a ∷ b ∷ c ∷ cs) = at_most_append 1 (bits 10 (100 * code_of a + 10 * code_of b + code_of c)) (numeric_bits cs) (bits_le 10 (100 * code_of a + 10 * code_of b + code_of c)) (numeric_le cs)

alphanumeric_le : (cs : List ℕ) → AtMost 1 (alphanumeric_bits cs)
unfolding alphanumeric_bits
alphanumeric_le [] = λ i h. absurd (not-suc-le-zero h)
alphanumeric_le (a ∷ []) = bits_le 6 (code_of a)
alphanumeric_le (a ∷ b ∷ cs) = at_most_append 1 (bits 11 (45 * code_of a + code_of b)) (alphanumeric_bits cs) (bits_le 11 (45 * code_of a + code_of b)) (alphanumeric_le cs)

body_le : (mode : ℕ) (cs : List ℕ) → AtMost 1 (body mode cs)
unfolding body
body_le mode cs = either (eqb mode 1) (eqb mode 2)
  where
    either : (a b : Bool) → AtMost 1 (cond a (numeric_bits cs) (cond b (alphanumeric_bits cs) (byte_bits cs)))
    either true b = numeric_le cs
    either false true = alphanumeric_le cs
    either false false = byte_bits_le cs

pub segments_le : (v : ℕ) (list payload : List ℕ) → AtMost 1 (segments v list payload)
unfolding segments
segments_le v [] payload = λ i h. absurd (not-suc-le-zero h)
segments_le v (mode ∷ []) payload = λ i h. absurd (not-suc-le-zero h)
segments_le v (mode ∷ count ∷ list) payload =
    simp append_assoc
    (at_most_append 1 (bits 4 mode) _ (bits_le 4 mode)
    (at_most_append 1 (bits (count_width v mode) count) _ (bits_le (count_width v mode) count)
    (at_most_append 1 (body mode (take count payload)) (segments v list (drop count payload)) (body_le mode (take count payload)) (segments_le v list (drop count payload)))))

pub segments_length : (v : ℕ) (list payload : List ℕ) → lawful_list list ≡ true → counts list ≡ length payload
    → length (segments v list payload) ≡ segments_width v list
unfolding segments segments_width lawful_list counts
segments_length v [] payload m s = refl
segments_length v (mode ∷ []) payload m s = refl
segments_length v (mode ∷ count ∷ list) payload m s =
    let k : known mode ≡ true = both_left (known mode) (lawful_list list) m in
    let l : length (take count payload) ≡ count = length-take-le count payload (omega arith) in
    simp (
      length-append,
      length_bits,
      body_length mode (take count payload) k,
      l,
      segments_length v list (drop count payload) (both_right (known mode) (lawful_list list) m) (rw (length-drop count payload) (omega arith)),
    )

-- ---- padding

-- the bits of the first k bytes of bits
pub byte_bits_front : (k : ℕ) (bs : List ℕ) → AtMost 1 bs → 8 * k ≤ length bs → byte_bits (bytes k bs) ≡ take (8 * k) bs
unfolding byte_bits bytes
byte_bits_front zero bs h l = refl
byte_bits_front (suc k) bs h l =
    let n : length (take 8 bs) ≡ 8 = length-take-le 8 bs (omega arith) in
    let e : 8 * suc k ≡ 8 + 8 * k = omega arith in
    ap₂ ◌++◌ (ap (λ (i : ℕ). bits i (number (take 8 bs))) (sym n) ∙ bits_number (take 8 bs) (at_most_take 1 8 bs h))
    (byte_bits_front k (drop 8 bs) (at_most_drop 1 8 bs h) (rw (length-drop 8 bs) (omega arith)))
    ∙ sym (take-add 8 (8 * k) bs) ∙ ap (λ (i : ℕ). take i bs) (sym e)

zeros_le : (n : ℕ) → AtMost 1 (replicate n 0)
zeros_le n i h = let z : ℕ = 0 in rw (get_or-replicate n i z z (rw (length-replicate n z) at h)) (omega arith)

-- what ends a stream
either_true : (a : Bool) → (a || true) ≡ true
either_true true = refl
either_true false = refl

pub few_bits : (v : ℕ) (bs : List ℕ) → length bs < 4 → front v bs ≡ End
unfolding front ends
few_bits v bs h = rw (lt-ltb (length bs) 4 h)

pub mode_zero : (v : ℕ) (bs : List ℕ) → number (take 4 bs) ≡ 0 → front v bs ≡ End
unfolding front ends
mode_zero v bs h = rw (eq-eqb (number (take 4 bs)) 0 h, either_true (ltb (length bs) 4))

module _ (v most : ℕ) (bs : List ℕ) (b : AtMost 1 bs) (h : length bs ≤ 8 * most) where
  -- bits, z zero bits, zeros to a whole byte
  whole : (z : ℕ) → min 4 (8 * most - length bs) ≡ z
      → byte_bits (whole_bytes most bs) ≡ (bs ++ replicate z 0) ++ take (8 * ((length (bs ++ replicate z 0) + 7) / 8) - length (bs ++ replicate z 0)) (replicate 7 0)
  unfolding whole_bytes
  whole z e =
      let ended : List ℕ = bs ++ replicate z 0 in
      let n : ℕ = (length ended + 7) / 8 in
      let zeros : List ℕ = replicate 7 0 in
      let d : 8 * n ≡ length ended + (8 * n - length ended) = omega arith in
      rw e
      (byte_bits_front n (ended ++ zeros) (at_most_append 1 ended zeros (at_most_append 1 bs (replicate z 0) b (zeros_le z)) (zeros_le 7))
      (rw (length-append ended zeros) (omega arith))
      ∙ ap (λ (i : ℕ). take i (ended ++ zeros)) d
      ∙ take-append-add ended zeros (8 * n - length ended))

  whole_length : (z : ℕ) → min 4 (8 * most - length bs) ≡ z → length (whole_bytes most bs) ≡ (length (bs ++ replicate z 0) + 7) / 8
  unfolding whole_bytes
  whole_length z e = rw e (length_bytes ((length (bs ++ replicate z 0) + 7) / 8) ((bs ++ replicate z 0) ++ replicate 7 0))

  abbrev pub Ended : Type 0
  Ended = (rest : List ℕ) × (byte_bits (padded most bs) ≡ bs ++ rest) × (front v rest ≡ End)

  -- four zero bits fit
  four : 4 ≤ 8 * most - length bs → Ended
  unfolding padded number number_after
  four l =
      let more : List ℕ = take (8 * ((length (bs ++ replicate 4 0) + 7) / 8) - length (bs ++ replicate 4 0)) (replicate 7 0) in
      let pad : List ℕ = byte_bits (pads (most - length (whole_bytes most bs))) in (
        replicate 4 0 ++ (more ++ pad),
        byte_bits_append (whole_bytes most bs) (pads (most - length (whole_bytes most bs)))
            ∙ ap (λ (x : List ℕ). x ++ pad) (whole 4 (min-eq_left l))
            ∙ append_assoc (bs ++ replicate 4 0) more pad
            ∙ append_assoc bs (replicate 4 0) (more ++ pad),
        mode_zero v (replicate 4 0 ++ (more ++ pad)) refl,
      )

  -- fewer do, and fill the version
  fewer : 8 * most - length bs < 4 → Ended
  unfolding padded byte_bits pads
  fewer l =
      let z : ℕ = 8 * most - length bs in
      let zero' : ℕ = 0 in
      let n : length (bs ++ replicate z 0) ≡ 8 * most = simp (length-append, length-replicate) (omega arith) in
      let e : min 4 (8 * most - length bs) ≡ z = min-eq_right (omega arith) in
      let d : 8 * ((length (bs ++ replicate z 0) + 7) / 8) - length (bs ++ replicate z 0) ≡ 0 = omega arith in
      let m : length (whole_bytes most bs) ≡ most = omega (arith, whole_length z e) in
      let k : most - length (whole_bytes most bs) ≡ 0 = omega arith in (
        replicate z 0,
        byte_bits_append (whole_bytes most bs) (pads (most - length (whole_bytes most bs)))
            ∙ ap₂ ◌++◌ (whole z e ∙ ap (λ (i : ℕ). (bs ++ replicate z 0) ++ take i (replicate 7 0)) d ∙ append-nil (bs ++ replicate z 0)) (ap (λ (i : ℕ). byte_bits (pads i)) k)
            ∙ append-nil (bs ++ replicate z 0),
        few_bits v (replicate z 0) (rw (length-replicate z zero') l),
      )

  pub padded_ends : Ended
  padded_ends = ⊎_elim fewer four (order (8 * most - length bs) 4)

-- ---- the whole message

even_short : (v : ℕ) (list : List ℕ) → lawful_list list ≡ true → length list ≤ segments_width v list
unfolding segments_width lawful_list
even_short v [] m = omega arith
even_short v (mode ∷ []) m = absurd (let z : ◌≡◌ {A = ℕ} 0 1 = cc in omega arith)
even_short v (mode ∷ count ∷ list) m = omega (arith, even_short v list (both_right (known mode) (lawful_list list) m))

pub parse_encode : (v level : ℕ) (payload list : List ℕ) → Lawful v level → LawfulMessage v level payload list
    → message v (data_codewords v level list payload) ≡ Message payload list
unfolding message data_codewords
parse_encode v level payload list l m =
    let most : ℕ = data_count v level in
    let bs : List ℕ = segments v list payload in
    let w : length bs ≡ segments_width v list = segments_length v list payload m.modes m.sums in
    let f : segments_width v list ≤ 8 * most = fit_width v level list m.fit in
    let e = padded_ends v most bs (segments_le v list payload) (omega arith) in
    let n : segments_width v list ≤ length (bs ++ e.0) = rw (length-append bs e.0) (omega arith) in
    ap (λ (x : List ℕ). parse (length x) v x) e.1
    ∙ segments_read (length (bs ++ e.0)) v list payload e.0 m.modes m.sums m.characters m.bytes
    (counts_fit v list m.modes (omega (arith, data_most v level l))) e.2 (omega (arith, even_short v list m.modes))
