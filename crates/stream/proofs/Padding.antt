-- Padding: a cleared buffer with the segments put at its front starts with their whole bytes, since all that follows them is zero bits.
use mathlib.Core.Path.{◌≡◌, refl, sym, ap, ap₂, ◌∙◌}
use mathlib.Core.List.{List, [], ◌∷◌, ◌++◌, append_assoc}
use Prim.Native.Nat.{ℕ, zero, suc, ◌+◌, ◌-◌, ◌*◌, ◌/◌, ◌%◌, ◌<◌, ◌≤◌, min}
use native.Mathlib.Nat.{zero-add, sub-zero, zero-sub, suc-sub-suc, not-suc-le-zero, le_of_suc-le-suc}
use native.Mathlib.Omega.{arith}
use lib.ListN.{length, get_or, take, drop, replicate, length-append, length-replicate, replicate-append-replicate}
use lib.Seq.{take_at, take-take}
use Rattle.basics.specs.Bits.{bits, byte_bits, bytes, number}
use Rattle.basics.specs.Lists.{AtMost}
use Rattle.basics.proofs.Bits.{length_bytes}
use Rattle.basics.proofs.Lists.{at_most_append, at_most_cons}
use Rattle.cursor.specs.Cursor.{with_bits}
use Rattle.cursor.proofs.Bits.{bytes_small}
use Rattle.cursor.proofs.Parts.{drop_take}
use Rattle.stream.specs.Stream.{pads, whole_bytes, padded}

-- ---- pads

pub pads_length : (n : ℕ) → length (pads n) ≡ n
unfolding pads
pads_length zero = refl
pads_length (suc zero) = refl
pads_length (suc (suc n)) = ap (λ (m : ℕ). suc (suc m)) (pads_length n)

pub pads_at : (n k : ℕ) → k < n → get_or (pads n) k 0 ≡ get_or (236 ∷ 17 ∷ []) (k % 2) 0
unfolding pads
pads_at zero k h = absurd (not-suc-le-zero h)
pads_at (suc zero) zero h = refl
pads_at (suc zero) (suc k) h = absurd (not-suc-le-zero (le_of_suc-le-suc h))
pads_at (suc (suc n)) zero h = refl
pads_at (suc (suc n)) (suc zero) h = refl
pads_at (suc (suc n)) (suc (suc k)) h =
    pads_at n k (le_of_suc-le-suc (le_of_suc-le-suc h)) ∙ ap (λ (r : ℕ). get_or (236 ∷ 17 ∷ []) r 0) (two k)
  where
    two : (k : ℕ) → k % 2 ≡ suc (suc k) % 2
    two k = omega arith

pub pads_le : (n : ℕ) → AtMost 255 (pads n)
unfolding pads
pads_le zero = λ i h. absurd (not-suc-le-zero h)
pads_le (suc zero) = at_most_cons 255 236 [] (omega arith) (λ i h. absurd (not-suc-le-zero h))
pads_le (suc (suc n)) = at_most_cons 255 236 (17 ∷ pads n) (omega arith) (at_most_cons 255 17 (pads n) (omega arith) (pads_le n))

-- ---- zeros

pub zero_bits : (n : ℕ) → byte_bits (replicate n 0) ≡ replicate (8 * n) 0
unfolding byte_bits bits
zero_bits zero = refl
zero_bits (suc n) = ap (λ (l : List ℕ). replicate 8 0 ++ l) (zero_bits n) ∙ replicate-append-replicate 8 (8 * n) 0 ∙ ap (λ (m : ℕ). replicate m 0) (eight n)
  where
    eight : (n : ℕ) → 8 + 8 * n ≡ 8 * suc n
    eight n = omega arith

pub zeros_le : (m n : ℕ) → AtMost m (replicate n 0)
zeros_le m zero = λ i h. absurd (not-suc-le-zero h)
zeros_le m (suc n) = at_most_cons m 0 (replicate n 0) (omega arith) (zeros_le m n)

pub drop_replicate : (k n a : ℕ) → drop k (replicate n a) ≡ replicate (n - k) a
drop_replicate zero n a = rw sub-zero
drop_replicate (suc k) zero a = rw zero-sub
drop_replicate (suc k) (suc n) a = rw suc-sub-suc (drop_replicate k n a)

-- the front of bits followed by zeros, as long as there are zeros enough
take_zeros : (xs : List ℕ) (n m : ℕ) → length xs ≤ n → n ≤ length xs + m → take n (xs ++ replicate m 0) ≡ xs ++ replicate (n - length xs) 0
take_zeros xs n m h l =
    let k : ℕ = n - length xs in
    let e : m ≡ k + (m - k) = omega arith in
    ap (λ (j : ℕ). take n (xs ++ replicate j 0)) e
    ∙ ap (λ (r : List ℕ). take n (xs ++ r)) (sym (replicate-append-replicate k (m - k) 0))
    ∙ ap (take n) (sym (append_assoc xs (replicate k 0) (replicate (m - k) 0)))
    ∙ take_at (xs ++ replicate k 0) (replicate (m - k) 0) n (length-append xs (replicate k 0) ∙ rw length-replicate (omega arith))

-- ---- bytes of the front

pub take_bytes : (w n : ℕ) (bs : List ℕ) → w ≤ n → take w (bytes n bs) ≡ bytes w bs
unfolding bytes
take_bytes zero n bs h = refl
take_bytes (suc w) zero bs h = absurd (not-suc-le-zero h)
take_bytes (suc w) (suc n) bs h = ap (λ (l : List ℕ). number (take 8 bs) ∷ l) (take_bytes w n (drop 8 bs) (le_of_suc-le-suc h))

bytes_front : (w : ℕ) (bs : List ℕ) → bytes w bs ≡ bytes w (take (8 * w) bs)
unfolding bytes
bytes_front zero bs = refl
bytes_front (suc w) bs =
    let e : 8 * suc w ≡ 8 + 8 * w = omega arith in
    rw e (ap₂ ◌∷◌ (ap number (sym (take-take 8 (8 + 8 * w) bs (omega arith)))) (bytes_front w (drop 8 bs) ∙ ap (bytes w) (sym (drop_take 8 (8 * w) bs))))

-- ---- the whole bytes of the segments

module _ (most : ℕ) (bs : List ℕ) (h : length bs ≤ 8 * most) where
  -- how many whole bytes the segments and the zero bits after them take
  abbrev pub front_count : ℕ
  front_count = (length bs + min 4 (8 * most - length bs) + 7) / 8

  front_le : front_count ≤ most
  front_le = omega arith

  closed : length (bs ++ replicate (min 4 (8 * most - length bs)) 0) ≡ length bs + min 4 (8 * most - length bs)
  closed = length-append bs (replicate (min 4 (8 * most - length bs)) 0) ∙ rw length-replicate

  -- what follows the segments, zeros enough to fill those bytes, is all one
  front_bits : (m : ℕ) → 8 * front_count ≤ length bs + m
      → bytes front_count (bs ++ replicate m 0) ≡ bytes front_count (bs ++ replicate (8 * front_count - length bs) 0)
  front_bits m l = bytes_front front_count (bs ++ replicate m 0) ∙ ap (bytes front_count) (take_zeros bs (8 * front_count) m (omega arith) l)

  pub whole_length : length (whole_bytes most bs) ≡ front_count
  unfolding whole_bytes
  whole_length = length_bytes _ _ ∙ ap (λ (n : ℕ). (n + 7) / 8) closed

  pub whole_front : take front_count (with_bits (replicate most 0) 0 bs) ≡ whole_bytes most bs
  unfolding with_bits whole_bytes
  whole_front =
      take_bytes front_count (length (replicate most 0)) _ (rw (length-replicate {A = ℕ} most 0) front_le)
      ∙ ap (λ (l : List ℕ). bytes front_count (bs ++ l)) (rw (zero-add, zero_bits) (drop_replicate (length bs) (8 * most) 0))
      ∙ front_bits (8 * most - length bs) (omega (arith, front_le))
      ∙ sym (front_bits (min 4 (8 * most - length bs) + 7) (omega arith))
      ∙ ap₂ bytes (ap (λ (n : ℕ). (n + 7) / 8) (sym closed))
      (ap (λ (l : List ℕ). bs ++ l) (sym (replicate-append-replicate (min 4 (8 * most - length bs)) 7 0)) ∙ sym (append_assoc bs _ _))

  -- the whole buffer, once the pads stand behind those bytes
  pub padded_is : take front_count (with_bits (replicate most 0) 0 bs) ++ pads (most - front_count) ≡ padded most bs
  unfolding padded
  padded_is = ap₂ (λ (l : List ℕ) (n : ℕ). l ++ pads (most - n)) whole_front (sym whole_length)

  pub padded_length : length (padded most bs) ≡ most
  unfolding padded
  padded_length = length-append (whole_bytes most bs) _ ∙ rw (pads_length, whole_length) (omega (arith, front_le))

pub padded_bytes : (most : ℕ) (bs : List ℕ) → AtMost 1 bs → AtMost 255 (padded most bs)
unfolding padded whole_bytes
padded_bytes most bs h =
    let n = min 4 (8 * most - length bs) in
    at_most_append 255 (whole_bytes most bs) (pads (most - length (whole_bytes most bs)))
    (bytes_small _ _ (at_most_append 1 (bs ++ replicate n 0) (replicate 7 0) (at_most_append 1 bs (replicate n 0) h (zeros_le 1 n)) (zeros_le 1 7)))
    (pads_le (most - length (whole_bytes most bs)))
