-- `parsed_lawful`: what is read is a lawful message of its version and level. A group in range has characters of its mode, each body has
-- as many characters as its count, and no segment runs past the data bits. `buffers_enough`: so it fits the reader's buffers.
use mathlib.Core.Path.{◌≡◌, refl, sym, ap, ◌∙◌}
use mathlib.Core.Bool.{Bool, true, false, cond, ◌&&◌}
use mathlib.Core.List.{List, [], ◌∷◌, ◌++◌}
use Prim.Native.Nat.{ℕ, zero, suc, ◌+◌, ◌-◌, ◌*◌, ◌/◌, ◌%◌, ◌<◌, ◌≤◌}
use native.Mathlib.Nat.{not-suc-le-zero}
use native.Mathlib.Omega.{arith}
use lib.Dec.{T, leb, eqb}
use lib.ListN.{length, take, drop, length-append, length-drop}
use lib.Seq.{take_at, drop_at}
use borrow.Author.Tests.{leb-true}
use Rattle.basics.specs.Bits.{byte_bits, number, bytes}
use Rattle.basics.specs.Lists.{each, place_in, AtMost}
use Rattle.basics.proofs.Bits.{length_byte_bits, byte_bits_le, length_bytes}
use Rattle.basics.proofs.Lists.{at_most_cons, at_most_append}
use Rattle.basics.proofs.Test.{all, at}
use Rattle.cursor.proofs.Bits.{at_most_drop, bytes_small}
use Rattle.tables.specs.Tables.{data_count, Lawful, most_payload, most_list}
use Rattle.stream.specs.Stream.{alphabet, code_of, character, known, in_mode, body_width, segments_width, lawful_list, counts, lawful_characters, LawfulMessage}
use Rattle.stream.proofs.Fitting.{fit_width, width_fits}
use Rattle.parse.specs.Parse.{digits, digits_in_range, pairs, pairs_in_range, characters, groups_in_range, Front, End, Segment, Refusal, head_width, front, Parsed, Message, Fault, in_front, parse, message}
use Rattle.parse.proofs.Body.{both_left, both_right, both_true, by_mode}
use Rattle.parse.proofs.Front.{WholeSegment, segment_whole, parse_segment, parse_refusal, parse_end}
use Rattle.parse.proofs.Encode.{data_most}
use Rattle.parse.proofs.Load.{list_enough}

-- ---- the characters of a body

-- bytes of a mode
pub record Chars (mode : ℕ) (cs : List ℕ) : Type 0 where
  pub modes : each (in_mode mode) cs ≡ true
  pub small : AtMost 255 cs

chars_none : (mode : ℕ) → Chars mode []
unfolding each
chars_none mode = record { modes = refl; small = λ i h. absurd (not-suc-le-zero h) }

chars_more : (mode c : ℕ) (cs : List ℕ) → (in_mode mode c && leb c 255) ≡ true → Chars mode cs → Chars mode (c ∷ cs)
unfolding each
chars_more mode c cs h l = record {
  modes = both_true (in_mode mode c) (each (in_mode mode) cs) (both_left (in_mode mode c) (leb c 255) h) l.modes;
  small = at_most_cons 255 c cs (leb-true c 255 (both_right (in_mode mode c) (leb c 255) h)) l.small;
}

is_true : (b : Bool) → T b → b ≡ true
is_true true t = refl
is_true false t = absurd t

digit_tested : T (all 10 (λ x. in_mode 1 (character x) && leb (character x) 255))
unfolding in_mode character code_of place_in alphabet
digit_tested = tt

digit : (x : ℕ) → x < 10 → (in_mode 1 (character x) && leb (character x) 255) ≡ true
digit x h = is_true (in_mode 1 (character x) && leb (character x) 255) (at 10 (λ x. in_mode 1 (character x) && leb (character x) 255) digit_tested x h)

code_tested : T (all 45 (λ x. in_mode 2 (character x) && leb (character x) 255))
unfolding in_mode character code_of place_in alphabet
code_tested = tt

code : (x : ℕ) → x < 45 → (in_mode 2 (character x) && leb (character x) 255) ≡ true
code x h = is_true (in_mode 2 (character x) && leb (character x) 255) (at 45 (λ x. in_mode 2 (character x) && leb (character x) 255) code_tested x h)

digits_lawful : (n : ℕ) (bs : List ℕ) → digits_in_range n bs ≡ true → Chars 1 (digits n bs)
unfolding digits digits_in_range
digits_lawful zero bs h = chars_none 1
digits_lawful (suc zero) bs h =
    chars_more 1 _ [] (digit (number (take 4 bs)) (omega (arith, leb-true (number (take 4 bs)) 9 h))) (chars_none 1)
digits_lawful (suc (suc zero)) bs h =
    let x : ℕ = number (take 7 bs) in
    let l : x ≤ 99 = leb-true x 99 h in
    chars_more 1 _ _ (digit (x / 10) (omega arith)) (chars_more 1 _ [] (digit (x % 10) (omega arith)) (chars_none 1))
digits_lawful (suc (suc (suc n))) bs h =
    let x : ℕ = number (take 10 bs) in
    let l : x ≤ 999 = leb-true x 999 (both_left (leb x 999) (digits_in_range n (drop 10 bs)) h) in
    chars_more 1 _ _ (digit (x / 100) (omega arith))
    (chars_more 1 _ _ (digit (x / 10 % 10) (omega arith))
    (chars_more 1 _ _ (digit (x % 10) (omega arith)) (digits_lawful n (drop 10 bs) (both_right (leb x 999) (digits_in_range n (drop 10 bs)) h))))

pairs_lawful : (n : ℕ) (bs : List ℕ) → pairs_in_range n bs ≡ true → Chars 2 (pairs n bs)
unfolding pairs pairs_in_range
pairs_lawful zero bs h = chars_none 2
pairs_lawful (suc zero) bs h =
    chars_more 2 _ [] (code (number (take 6 bs)) (omega (arith, leb-true (number (take 6 bs)) 44 h))) (chars_none 2)
pairs_lawful (suc (suc n)) bs h =
    let x : ℕ = number (take 11 bs) in
    let l : x ≤ 2024 = leb-true x 2024 (both_left (leb x 2024) (pairs_in_range n (drop 11 bs)) h) in
    chars_more 2 _ _ (code (x / 45) (omega arith))
    (chars_more 2 _ _ (code (x % 45) (omega arith)) (pairs_lawful n (drop 11 bs) (both_right (leb x 2024) (pairs_in_range n (drop 11 bs)) h)))

any_byte : (cs : List ℕ) → each (in_mode 4) cs ≡ true
unfolding each in_mode
any_byte [] = refl
any_byte (c ∷ cs) = any_byte cs

pub characters_lawful : (mode count : ℕ) (bs : List ℕ) → known mode ≡ true → groups_in_range mode count bs ≡ true → AtMost 1 bs → Chars mode (characters mode count bs)
unfolding characters groups_in_range
characters_lawful mode count bs k r b =
    by_mode mode k
    (λ e. rw e (digits_lawful count bs (rw e at r)))
    (λ e. rw e (pairs_lawful count bs (rw e at r)))
    (λ e. rw e (record { modes = any_byte (bytes count bs); small = bytes_small count bs b }))

length_digits : (n : ℕ) (bs : List ℕ) → length (digits n bs) ≡ n
unfolding digits
length_digits zero bs = refl
length_digits (suc zero) bs = refl
length_digits (suc (suc zero)) bs = refl
length_digits (suc (suc (suc n))) bs = ap (λ (k : ℕ). suc (suc (suc k))) (length_digits n (drop 10 bs))

length_pairs : (n : ℕ) (bs : List ℕ) → length (pairs n bs) ≡ n
unfolding pairs
length_pairs zero bs = refl
length_pairs (suc zero) bs = refl
length_pairs (suc (suc n)) bs = ap (λ (k : ℕ). suc (suc k)) (length_pairs n (drop 11 bs))

pub length_characters : (mode count : ℕ) (bs : List ℕ) → length (characters mode count bs) ≡ count
unfolding characters
length_characters mode count bs = either (eqb mode 1) (eqb mode 2)
  where
    either : (a b : Bool) → length (cond a (digits count bs) (cond b (pairs count bs) (bytes count bs))) ≡ count
    either true b = length_digits count bs
    either false true = length_pairs count bs
    either false false = length_bytes count bs

-- ---- the whole stream

-- a lawful message in so many bits
pub record Held (v width : ℕ) (payload list : List ℕ) : Type 0 where
  pub small : AtMost 255 payload
  pub modes : lawful_list list ≡ true
  pub sums : counts list ≡ length payload
  pub chars : lawful_characters list payload ≡ true
  pub fit : segments_width v list ≤ width

held_none : (v width : ℕ) → Held v width [] []
unfolding lawful_list counts lawful_characters segments_width
held_none v width = record { small = λ i h. absurd (not-suc-le-zero h); modes = refl; sums = refl; chars = refl; fit = omega arith }

held_more : (v mode count width later : ℕ) (cs payload list : List ℕ) → known mode ≡ true → length cs ≡ count → Chars mode cs
    → Held v later payload list → head_width v mode + body_width mode count + later ≤ width → Held v width (cs ++ payload) (mode ∷ count ∷ list)
unfolding lawful_list counts lawful_characters segments_width head_width
held_more v mode count width later cs payload list k l c h w = record {
  small = at_most_append 255 cs payload c.small h.small;
  modes = both_true (known mode) (lawful_list list) k h.modes;
  sums = rw (length-append cs payload, l, h.sums);
  chars = rw (take_at cs payload count l, drop_at cs payload count l) (both_true (each (in_mode mode) cs) (lawful_characters list payload) c.modes h.chars);
  fit = omega (arith, h.fit);
}

nothing : (v : ℕ) (bs payload list : List ℕ) → Message [] [] ≡ Message payload list → Held v (length bs) payload list
nothing v bs payload list e =
    let p : payload ≡ [] = cc in
    let q : list ≡ [] = cc in
    rw (p, q) (held_none v (length bs))

module _ (fuel v : ℕ) (bs payload list : List ℕ) (b : AtMost 1 bs)
    (later : (xs p l : List ℕ) → AtMost 1 xs → parse fuel v xs ≡ Message p l → Held v (length xs) p l) where
  after : (mode count : ℕ) → WholeSegment v mode count bs → (rest : Parsed) → parse fuel v (drop (head_width v mode + body_width mode count) bs) ≡ rest
      → in_front mode count (characters mode count (drop (head_width v mode) bs)) rest ≡ Message payload list → Held v (length bs) payload list
  after mode count w (Fault n) r g = absurd (let z : ◌≡◌ {A = ℕ} 0 1 = cc in omega arith)
  after mode count w (Message p l) r g =
      let cs : List ℕ = characters mode count (drop (head_width v mode) bs) in
      let e : payload ≡ cs ++ p = cc in
      let f : list ≡ mode ∷ count ∷ l = cc in
      let tail : List ℕ = drop (head_width v mode + body_width mode count) bs in
      let n : length tail ≡ length bs - (head_width v mode + body_width mode count) = length-drop (head_width v mode + body_width mode count) bs in
      rw (e, f)
      (held_more v mode count (length bs) (length tail) cs p l w.knows (length_characters mode count (drop (head_width v mode) bs))
      (characters_lawful mode count (drop (head_width v mode) bs) w.knows w.ranged (at_most_drop 1 (head_width v mode) bs b))
      (later tail p l (at_most_drop 1 (head_width v mode + body_width mode count) bs b) r) (omega (arith, w.holds)))

  by_front : parse (suc fuel) v bs ≡ Message payload list → (f : Front) → front v bs ≡ f → Held v (length bs) payload list
  by_front e End f = nothing v bs payload list (sym (parse_end (suc fuel) v bs f) ∙ e)
  by_front e (Segment mode count) f =
      after mode count (segment_whole v mode count bs f) (parse fuel v (drop (head_width v mode + body_width mode count) bs)) refl (sym (parse_segment fuel v bs mode count f) ∙ e)
  by_front e (Refusal n) f =
      let g : Fault n ≡ Message payload list = sym (parse_refusal fuel v bs n f) ∙ e in
      absurd (let z : ◌≡◌ {A = ℕ} 0 1 = cc in omega arith)

pub parse_held : (fuel v : ℕ) (bs payload list : List ℕ) → AtMost 1 bs → parse fuel v bs ≡ Message payload list → Held v (length bs) payload list
unfolding parse
parse_held zero v bs payload list b e = nothing v bs payload list e
parse_held (suc fuel) v bs payload list b e = by_front fuel v bs payload list b (parse_held fuel v) e (front v bs) refl

pub parsed_lawful : (v level : ℕ) (codewords payload list : List ℕ) → Lawful v level → length codewords ≡ data_count v level
    → message v codewords ≡ Message payload list → LawfulMessage v level payload list
unfolding message
parsed_lawful v level codewords payload list w l e =
    let h = parse_held (length (byte_bits codewords)) v (byte_bits codewords) payload list (byte_bits_le codewords) e in
    record {
      bytes = h.small;
      modes = h.modes;
      sums = h.sums;
      characters = h.chars;
      fit = width_fits v level list w.least w.most (omega (arith, h.fit, length_byte_bits codewords));
    }

pub buffers_enough : (v level : ℕ) (codewords payload list : List ℕ) → Lawful v level → length codewords ≡ data_count v level
    → message v codewords ≡ Message payload list → (length payload ≤ most_payload) × (length list ≤ most_list)
buffers_enough v level codewords payload list w l e =
    let m = parsed_lawful v level codewords payload list w l e in
    let f : segments_width v list ≤ 8 * data_count v level = fit_width v level list m.fit in
    let n = list_enough v list m.modes (omega (arith, data_most v level w)) in
    (omega (arith, n.0, m.sums), n.1)
