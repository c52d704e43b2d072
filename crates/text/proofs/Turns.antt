-- What is left of a text before a turn of the loop that writes it: what the turn writes, and what is left after it.
use mathlib.Core.Path.{◌≡◌, refl, sym, ap, ◌∙◌}
use mathlib.Core.List.{List, [], ◌∷◌, ◌++◌}
use Prim.Native.Nat.{ℕ, ◌+◌, ◌*◌, ◌/◌, ◌%◌, ◌≤◌, ◌<◌}
use native.Mathlib.Numerals.{add-one}
use native.Mathlib.Omega.{arith}
use lib.ListN.{length, drop, get_or, drop_of_length-le, take}
use lib.Seq.{drop-cons, drop-drop}
use Rattle.part.specs.Part.{start_of, part_of, Fills}
use Rattle.part.proofs.Laws.{part_here}
use Rattle.text.specs.Text.{hex, hex_digit, segment_text, segment_lines}

pub byte_turn : (s : List ℕ) (k : ℕ) → k < length s → drop k s ≡ get_or s k 0 ∷ drop (k + 1) s
byte_turn s k h = rw (add-one, drop-cons s k 0)

pub none_left : (s : List ℕ) (k : ℕ) → length s ≤ k → drop k s ≡ []
none_left s k h = drop_of_length-le s h

pub hex_turn : (s : List ℕ) (k : ℕ) → k < length s → hex (drop k s) ≡ hex_digit (get_or s k 0 / 16) ∷ hex_digit (get_or s k 0 % 16) ∷ hex (drop (k + 1) s)
unfolding hex
hex_turn s k h = ap hex (byte_turn s k h)

-- ---- segments

-- the list's next pair
pub pair_turn : (l : List ℕ) (k : ℕ) → 2 * k + 1 < length l → drop (2 * k) l ≡ get_or l (2 * k) 0 ∷ get_or l (2 * k + 1) 0 ∷ drop (2 * (k + 1)) l
pair_turn l k h =
    let e : 2 * k + 1 + 1 ≡ 2 * (k + 1) = omega arith in
    byte_turn l (2 * k) (omega arith)
    ∙ ap (λ (r : List ℕ). get_or l (2 * k) 0 ∷ r) (byte_turn l (2 * k + 1) h ∙ ap (λ (n : ℕ). get_or l (2 * k + 1) 0 ∷ drop n l) e)

pub segment_turn : (p l : List ℕ) (k : ℕ) → 2 * k + 1 < length l
    → segment_lines (k + 1) p (drop (2 * k) l)
    ≡ segment_text (k + 1) (get_or l (2 * k) 0) (get_or l (2 * k + 1) 0) (take (get_or l (2 * k + 1) 0) p)
    ++ segment_lines (k + 1 + 1) (drop (get_or l (2 * k + 1) 0) p) (drop (2 * (k + 1)) l)
unfolding segment_lines
segment_turn p l k h = ap (segment_lines (k + 1) p) (pair_turn l k h)

-- fewer than two numbers are no segment
pub no_segment : (k : ℕ) (p l : List ℕ) → length l ≤ 1 → segment_lines k p l ≡ []
unfolding segment_lines
no_segment k p [] h = refl
no_segment k p (m ∷ []) h = refl
no_segment k p (m ∷ n ∷ l) h = absurd (omega arith)

-- what is left before turn k, in the terms of the loop: the payload from the segment's start on, and the segment's part of it
pub segment_left : (p l : List ℕ) (k mode count : ℕ) (bytes : List ℕ) → Fills l (length p) → 2 * k + 1 < length l
    → mode ≡ get_or l (2 * k) 0 → count ≡ get_or l (2 * k + 1) 0 → bytes ≡ part_of p l k
    → segment_lines (k + 1) (drop (start_of l k) p) (drop (2 * k) l)
    ≡ segment_text (k + 1) mode count bytes ++ segment_lines (k + 1 + 1) (drop (start_of l (k + 1)) p) (drop (2 * (k + 1)) l)
segment_left p l k mode count bytes f h eo ec eb =
    let part : part_of p l k ≡ take (get_or l (2 * k + 1) 0) (drop (start_of l k) p) = part_here p l f.whole (omega (arith, f.sums)) k (omega arith) in
    let next : drop (get_or l (2 * k + 1) 0) (drop (start_of l k) p) ≡ drop (start_of l (k + 1)) p = drop-drop (get_or l (2 * k + 1) 0) (start_of l k) p ∙ ap (λ (n : ℕ). drop (start_of l n) p) (sym (add-one k)) in
    rw (eb, part, eo, ec, ← next) (segment_turn (drop (start_of l k) p) l k h)
