-- A stream that was written is read back. Each segment's head is its mode and count, its body reads back, and what follows the last
-- segment is up to four zero bits as fit, so fewer than four bits or mode 0 end the stream.
use mathlib.Core.Path.{◌≡◌, refl, sym, ap, ap₂, ◌∙◌}
use mathlib.Core.Bool.{true}
use mathlib.Core.List.{List, [], ◌∷◌, ◌++◌, append_assoc}
use Prim.Native.Nat.{ℕ, zero, suc, ◌+◌, ◌*◌, ◌/◌, ◌%◌, ◌^◌, ◌<◌, ◌≤◌}
use native.Mathlib.Nat.{not-suc-le-zero}
use native.Mathlib.Omega.{arith}
use lib.ListN.{length, take, drop, length-append, take-append-drop, length-drop}
use lib.Seq.{drop_at, length-take-le, drop-drop}
use Rattle.basics.specs.Bits.{bits, number}
use Rattle.basics.specs.Lists.{each, AtMost}
use Rattle.cursor.proofs.Bits.{at_most_take, at_most_drop}
use Rattle.basics.proofs.Bits.{length_bits, length_byte_bits}
use Rattle.tables.specs.Tables.{count_width}
use Rattle.stream.specs.Stream.{code_of, known, in_mode, numeric_bits, alphanumeric_bits, body, body_width, segments, lawful_list, counts, lawful_characters}
use Rattle.parse.specs.Parse.{characters, groups_in_range, End, head_width, front, Message, in_front, parse}
use Rattle.parse.proofs.Body.{both_left, both_right, by_mode, number_front, drop_front, body_written}
use Rattle.parse.proofs.Front.{known_small, WholeSegment, whole_segment, parse_segment, parse_end}

-- ---- the length of a body

numeric_length : (cs : List ℕ) → length (numeric_bits cs) ≡ body_width 1 (length cs)
unfolding numeric_bits body_width
numeric_length [] = refl
numeric_length (a ∷ []) = length_bits 4 (code_of a)
numeric_length (a ∷ b ∷ []) = length_bits 7 (10 * code_of a + code_of b)
numeric_length (a ∷ b ∷ c ∷ cs) =
    let n : ℕ = length cs in
    let q : suc (suc (suc n)) / 3 ≡ suc (n / 3) = omega arith in
    let r : suc (suc (suc n)) % 3 ≡ n % 3 = omega arith in
    rw (length-append (bits 10 (100 * code_of a + 10 * code_of b + code_of c)) (numeric_bits cs), length_bits 10 (100 * code_of a + 10 * code_of b + code_of c), numeric_length cs, q, r)
    (omega arith)

alphanumeric_length : (cs : List ℕ) → length (alphanumeric_bits cs) ≡ body_width 2 (length cs)
unfolding alphanumeric_bits body_width
alphanumeric_length [] = refl
alphanumeric_length (a ∷ []) = length_bits 6 (code_of a)
alphanumeric_length (a ∷ b ∷ cs) =
    rw (length-append (bits 11 (45 * code_of a + code_of b)) (alphanumeric_bits cs), length_bits 11 (45 * code_of a + code_of b), alphanumeric_length cs)
    (omega arith)

pub body_length : (mode : ℕ) (cs : List ℕ) → known mode ≡ true → length (body mode cs) ≡ body_width mode (length cs)
unfolding body body_width
body_length mode cs k =
    by_mode mode k (λ e. rw e (numeric_length cs)) (λ e. rw e (alphanumeric_length cs)) (λ e. rw e (length_byte_bits cs))

-- ---- one segment

module _ (v mode count : ℕ) (cs rest : List ℕ) (k : known mode ≡ true) (c : count < 2 ^ count_width v mode)
    (l : length cs ≡ count) (m : each (in_mode mode) cs ≡ true) (b : AtMost 255 cs) where
  abbrev pub segment_bits : List ℕ
  segment_bits = bits 4 mode ++ (bits (count_width v mode) count ++ (body mode cs ++ rest))

  after_head : drop (head_width v mode) segment_bits ≡ body mode cs ++ rest
  unfolding head_width
  after_head =
      sym (drop-drop (count_width v mode) 4 segment_bits)
      ∙ ap (drop (count_width v mode)) (drop_front 4 mode (bits (count_width v mode) count ++ (body mode cs ++ rest)))
      ∙ drop_front (count_width v mode) count (body mode cs ++ rest)

  after_body : drop (head_width v mode + body_width mode count) segment_bits ≡ rest
  after_body =
      sym (drop-drop (body_width mode count) (head_width v mode) segment_bits)
      ∙ ap (drop (body_width mode count)) after_head
      ∙ drop_at (body mode cs) rest (body_width mode count) (body_length mode cs k ∙ ap (body_width mode) l)

  pub segment_written : WholeSegment v mode count segment_bits
  unfolding head_width
  segment_written =
      let w = body_written mode cs rest m b k in
      record {
        modes = number_front 4 mode _ (known_small mode k);
        counts = ap (λ (bs : List ℕ). number (take (count_width v mode) bs)) (drop_front 4 mode _) ∙ number_front (count_width v mode) count _ c;
        knows = k;
        holds =
            simp (length-append, length_bits) (omega (arith, body_length mode cs k ∙ ap (body_width mode) l));
        ranged = ap (groups_in_range mode count) after_head ∙ ap (λ (n : ℕ). groups_in_range mode n (body mode cs ++ rest)) (sym l) ∙ w.1;
      }

  pub characters_written : characters mode count (drop (head_width v mode) segment_bits) ≡ cs
  characters_written =
      ap (characters mode count) after_head ∙ ap (λ (n : ℕ). characters mode n (body mode cs ++ rest)) (sym l) ∙ (body_written mode cs rest m b k).0

  pub parse_written : (fuel : ℕ) → parse (suc fuel) v segment_bits ≡ in_front mode count cs (parse fuel v rest)
  parse_written fuel =
      parse_segment fuel v segment_bits mode count (whole_segment v mode count segment_bits segment_written)
      ∙ ap₂ (λ (x y : List ℕ). in_front mode count x (parse fuel v y)) characters_written after_body

-- ---- all segments

-- each count has room in its field
abbrev pub CountsFit : (v : ℕ) → List ℕ → Type 0
CountsFit v [] = Unit {0}
CountsFit v (mode ∷ []) = Unit {0}
CountsFit v (mode ∷ count ∷ list) = (count < 2 ^ count_width v mode) × CountsFit v list

pub segments_read : (fuel v : ℕ) (list payload rest : List ℕ) → lawful_list list ≡ true → counts list ≡ length payload
    → lawful_characters list payload ≡ true → AtMost 255 payload → CountsFit v list → front v rest ≡ End → length list ≤ fuel
    → parse fuel v (segments v list payload ++ rest) ≡ Message payload list
unfolding segments lawful_list counts lawful_characters
segments_read fuel v [] [] rest m s c b f e h = parse_end fuel v rest e
segments_read fuel v [] (x ∷ xs) rest m s c b f e h = absurd (omega arith)
segments_read fuel v (mode ∷ []) payload rest m s c b f e h = absurd (let z : ◌≡◌ {A = ℕ} 0 1 = cc in omega arith)
segments_read zero v (mode ∷ count ∷ list) payload rest m s c b f e h = absurd (not-suc-le-zero h)
segments_read (suc fuel) v (mode ∷ count ∷ list) payload rest m s c b f e h =
    let cs : List ℕ = take count payload in
    let later : List ℕ = drop count payload in
    let k : known mode ≡ true = both_left (known mode) (lawful_list list) m in
    let l : length cs ≡ count = length-take-le count payload (omega arith) in
    simp append_assoc
    (parse_written v mode count cs (segments v list later ++ rest) k f.0 l (both_left (each (in_mode mode) cs) (lawful_characters list later) c)
    (at_most_take 255 count payload b) fuel
    ∙ ap (in_front mode count cs)
    (segments_read fuel v list later rest (both_right (known mode) (lawful_list list) m) (rw (length-drop count payload) (omega arith))
    (both_right (each (in_mode mode) cs) (lawful_characters list later) c) (at_most_drop 255 count payload b) f.1 e (omega arith))
    ∙ ap (λ (p : List ℕ). Message p (mode ∷ count ∷ list)) (take-append-drop count payload))
