-- What a body's bits are by its first group and the characters behind it, and that groups are what the paper says of digits and of pairs.
use mathlib.Core.Path.{◌≡◌, refl, sym, ap, ◌∙◌}
use mathlib.Core.Bool.{Bool, true, false, cond}
use mathlib.Core.List.{List, [], ◌∷◌, ◌++◌, append-nil}
use Prim.Native.Nat.{ℕ, zero, suc, ◌+◌, ◌-◌, ◌*◌, ◌/◌, ◌<◌, ◌≤◌}
use native.Mathlib.Nat.{zero-mul, one-mul, suc-mul, add-mul, le_trans, mul-le-mul_right, div-mul-le_self}
use native.Mathlib.Numerals.{add-one}
use native.Mathlib.Omega.{arith}
use lib.Dec.{eqb}
use lib.ListN.{length, get_or, take, drop, drop_of_length-le}
use lib.Seq.{drop-cons}
use borrow.Author.Tests.{ne_eqb, eqb-false}
use Rattle.std.specs.List.{fold}
use Rattle.std.specs.Simd.{first_chunks}
use Rattle.std.proofs.lemmas.List.{take-append-drop, drop-drop, length-take-le, length-drop}
use Rattle.basics.specs.Bits.{bits, byte_bits}
use Rattle.stream.specs.BitWriter.{HasRoom}
use Rattle.stream.specs.declared.BitWriter.{BitWriter}
use Rattle.stream.specs.Put.{value, bits_behind, group_bits}
use Rattle.stream.specs.Stream.{code_of, numeric_bits, alphanumeric_bits, body}

module _ (base : ℕ) (widths : List ℕ) where
  -- a group that is full, or behind which nothing is left
  behind : (group rest : List ℕ) (n count : ℕ) → 0 < length group → count + length group ≤ length widths → (count + length group < length widths → length rest ≡ 0)
      → bits_behind base widths n (group ++ rest) count
      ≡ bits (get_or widths (count + length group - 1) 0) (fold (λ n c. base * n + code_of c) n group) ++ bits_behind base widths 0 rest 0
  unfolding bits_behind
  behind [] rest n count s l e = absurd (omega arith)
  behind (c ∷ []) rest n count s l e = pick (eqb (suc count) (length widths)) refl
    where
      i : count + 1 - 1 ≡ count
      i = omega arith

      last : (rest : List ℕ) → length rest ≡ 0
          → bits_behind base widths (base * n + code_of c) rest (suc count) ≡ bits (get_or widths (count + 1 - 1) 0) (base * n + code_of c) ++ bits_behind base widths 0 rest 0
      last [] h = rw i (sym (append-nil _))
      last (d ∷ rest) h = absurd (omega arith)

      pick : (t : Bool) → eqb (suc count) (length widths) ≡ t
          → cond t (bits (get_or widths count 0) (base * n + code_of c) ++ bits_behind base widths 0 rest 0) (bits_behind base widths (base * n + code_of c) rest (suc count))
          ≡ bits (get_or widths (count + 1 - 1) 0) (base * n + code_of c) ++ bits_behind base widths 0 rest 0
      pick true h = rw i
      pick false h = last rest (e (omega (arith, eqb-false (suc count) (length widths) h)))
  behind (c ∷ d ∷ group) rest n count s l e =
      let more : eqb (suc count) (length widths) ≡ false = ne_eqb (suc count) (length widths) (omega arith) in
      let i : suc count + length (d ∷ group) - 1 ≡ count + length (c ∷ d ∷ group) - 1 = omega arith in
      rw more (behind (d ∷ group) rest (base * n + code_of c) (suc count) (omega arith) (omega arith) (λ h. e (omega arith)) ∙ rw i)

  -- a group that is full, with those behind it, and a last one
  pub group_full : (group rest : List ℕ) → 0 < length widths → length group ≡ length widths
      → group_bits base widths (group ++ rest) ≡ bits (get_or widths (length group - 1) 0) (value base group) ++ group_bits base widths rest
  group_full group rest s e =
      let i : 0 + length group - 1 ≡ length group - 1 = omega arith in
      behind group rest 0 0 (omega arith) (omega arith) (λ h. absurd (omega arith)) ∙ rw i

  pub group_last : (group : List ℕ) → 0 < length group → length group ≤ length widths → group_bits base widths group ≡ bits (get_or widths (length group - 1) 0) (value base group) ++ []
  unfolding bits_behind
  group_last group s l =
      let i : 0 + length group - 1 ≡ length group - 1 = omega arith in
      ap (λ (g : List ℕ). group_bits base widths g) (sym (append-nil group)) ∙ behind group [] 0 0 s (omega arith) (λ h. refl) ∙ rw i

  pub group_none : (rest : List ℕ) → length rest ≡ 0 → group_bits base widths rest ≡ []
  unfolding bits_behind
  group_none [] e = refl
  group_none (c ∷ rest) e = absurd (omega arith)

-- the i-th of so many arrays of n elements
pub array_at : (n count i : ℕ) (l d : List ℕ) → i < count → get_or (first_chunks n count l) i d ≡ take n (drop (i * n) l)
array_at n zero i l d h = absurd (omega arith)
array_at n (suc count) zero l d h = rw (zero-mul n) refl
array_at n (suc count) (suc i) l d h =
    let e : n + i * n ≡ suc i * n = sym (suc-mul i n ∙ omega arith) in
    array_at n count i (drop n l) d (omega arith) ∙ ap (take n) (drop-drop (i * n) n l ∙ ap (λ (k : ℕ). drop k l) e)

-- what is left before it is the array and what is left behind it
pub array_more : (n i : ℕ) (l : List ℕ) → i < length l / n → (drop (i * n) l ≡ take n (drop (i * n) l) ++ drop ((i + 1) * n) l) × (length (take n (drop (i * n) l)) ≡ n)
array_more n i l h =
    let e : i * n + n ≡ (i + 1) * n = sym (add-mul i 1 n ∙ omega (arith, one-mul n)) in
    let whole : (i + 1) * n ≤ length l = le_trans (mul-le-mul_right n (omega arith)) (div-mul-le_self (length l) n) in (
      sym (take-append-drop n (drop (i * n) l)) ∙ ap (λ (xs : List ℕ). take n (drop (i * n) l) ++ xs) (drop-drop n (i * n) l ∙ ap (λ (k : ℕ). drop k l) e),
      length-take-le n (drop (i * n) l) (omega (arith, length-drop (i * n) l)),
    )

-- three digits in 10 bits, two left in 7, one left in 4
pub numeric_groups : (chars : List ℕ) → group_bits 10 (4 ∷ 7 ∷ 10 ∷ []) chars ≡ numeric_bits chars
unfolding numeric_bits bits_behind
numeric_groups [] = refl
numeric_groups (a ∷ []) = ap (bits 4) (omega arith)
numeric_groups (a ∷ b ∷ []) = ap (bits 7) (omega arith)
numeric_groups (a ∷ b ∷ c ∷ chars) =
    let e : 10 * (10 * (10 * 0 + code_of a) + code_of b) + code_of c ≡ 100 * code_of a + 10 * code_of b + code_of c = omega arith in
    rw (e, numeric_groups chars)

-- a pair in 11 bits, one left in 6
pub alphanumeric_groups : (chars : List ℕ) → group_bits 45 (6 ∷ 11 ∷ []) chars ≡ alphanumeric_bits chars
unfolding alphanumeric_bits bits_behind
alphanumeric_groups [] = refl
alphanumeric_groups (a ∷ []) = ap (bits 6) (omega arith)
alphanumeric_groups (a ∷ b ∷ chars) =
    let e : 45 * (45 * 0 + code_of a) + code_of b ≡ 45 * code_of a + code_of b = omega arith in
    rw (e, alphanumeric_groups chars)

-- a body has room as the groups that it is
module _ {writer : BitWriter} {mode : ℕ} (chars : List ℕ) (room : HasRoom writer (body mode chars)) where
  pub digits_room : mode ≡ 1 → HasRoom writer (group_bits 10 (4 ∷ 7 ∷ 10 ∷ []) chars)
  unfolding body
  digits_room e = rw (numeric_groups chars) (rw e at room)

  pub pairs_room : mode ≡ 2 → HasRoom writer (group_bits 45 (6 ∷ 11 ∷ []) chars)
  unfolding body
  pairs_room e = rw (alphanumeric_groups chars) (rw e at room)

module _ (l : List ℕ) (i : ℕ) where
  pub bytes_more : (x : ℕ) → i < length l → x ≡ get_or l i 0 → byte_bits (drop i l) ≡ bits 8 x ++ byte_bits (drop (i + 1) l)
  unfolding byte_bits
  bytes_more x h e = rw (e, add-one) (ap byte_bits (drop-cons l i 0 h))

  pub bytes_none : length l ≤ i → byte_bits (drop i l) ≡ []
  unfolding byte_bits
  bytes_none h = ap byte_bits (drop_of_length-le l h)
