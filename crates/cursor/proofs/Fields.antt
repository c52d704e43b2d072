-- Bytes with bits put in: what their bits are, how many they are, that they are bytes, and bits put after bits.
use mathlib.Core.Path.{◌≡◌, refl, sym, ap, ap₂, ◌∙◌}
use mathlib.Core.List.{List, [], ◌++◌, append_assoc}
use Prim.Native.Nat.{ℕ, ◌+◌, ◌*◌, ◌<◌, ◌≤◌}
use native.Mathlib.Nat.{lt_of_lt_of_le, add-zero}
use lib.Pow.{pow_mono}
use native.Mathlib.Omega.{arith}
use lib.ListN.{length, take, drop, length-append, length-drop, take-append-drop}
use lib.Seq.{length-take-le, take_all, take_at, drop_at, drop-drop, paste}
use Rattle.basics.specs.Bits.{bits, byte_bits, bytes, number, number_after}
use Rattle.basics.specs.Lists.{AtMost}
use Rattle.basics.proofs.Bits.{length_bits, length_byte_bits, length_bytes, bits_le, byte_bits_le, bytes_byte_bits, byte_bits_injective}
use Rattle.basics.proofs.Lists.{at_most_append}
use Rattle.cursor.specs.Cursor.{field, with_bits}
use Rattle.cursor.proofs.Bits.{at_most_take, at_most_drop, byte_bits_bytes, bytes_small, number_small}

module _ (s : List ℕ) (at : ℕ) (bs : List ℕ) (h : AtMost 1 bs) where
  all_le : AtMost 1 (take at (byte_bits s) ++ (bs ++ drop (at + length bs) (byte_bits s)))
  all_le =
      at_most_append 1 (take at (byte_bits s)) (bs ++ drop (at + length bs) (byte_bits s)) (at_most_take 1 at (byte_bits s) (byte_bits_le s))
      (at_most_append 1 bs (drop (at + length bs) (byte_bits s)) h (at_most_drop 1 (at + length bs) (byte_bits s) (byte_bits_le s)))

  pub with_bits_bits : at + length bs ≤ 8 * length s → byte_bits (with_bits s at bs) ≡ take at (byte_bits s) ++ (bs ++ drop (at + length bs) (byte_bits s))
  unfolding with_bits
  with_bits_bits l =
      byte_bits_bytes (length s) _
      (simp (length-append, length-drop, length_byte_bits, length-take-le at (byte_bits s) (rw length_byte_bits (omega arith))) (omega arith))
      all_le

  pub with_bits_bytes : AtMost 255 (with_bits s at bs)
  unfolding with_bits
  with_bits_bytes = bytes_small (length s) _ all_le

pub with_bits_length : (s : List ℕ) (at : ℕ) (bs : List ℕ) → length (with_bits s at bs) ≡ length s
unfolding with_bits
with_bits_length s at bs = length_bytes (length s) _

-- nothing put
pub with_bits_none : (s : List ℕ) (at : ℕ) → AtMost 255 s → with_bits s at [] ≡ s
unfolding with_bits
with_bits_none s at h = rw (add-zero, take-append-drop) (bytes_byte_bits s h)

put_after : (B xs ys : List ℕ) (at next : ℕ) → at + length xs ≡ next → next ≤ length B
    → take next (take at B ++ (xs ++ drop (at + length xs) B)) ++ (ys ++ drop (next + length ys) (take at B ++ (xs ++ drop (at + length xs) B)))
    ≡ take at B ++ ((xs ++ ys) ++ drop (at + length (xs ++ ys)) B)
put_after B xs ys at next e l =
    let front : length (take at B ++ xs) ≡ next = simp (length-append, length-take-le at B (omega arith)) e in
    let more : at + length (xs ++ ys) ≡ next + length ys = rw length-append (omega arith) in
    rw (
      e,
      more,
      ← append_assoc (take at B) xs (drop next B),
      take_at (take at B ++ xs) (drop next B) next front,
      ← drop-drop (length ys) next ((take at B ++ xs) ++ drop next B),
      drop_at (take at B ++ xs) (drop next B) next front,
      drop-drop,
    )
    (simp append_assoc)

-- bits put, and further bits right after them: all of them put
pub with_bits_more : (s : List ℕ) (at next : ℕ) (xs ys : List ℕ) → AtMost 1 xs → at + length xs ≡ next → next ≤ 8 * length s
    → with_bits (with_bits s at xs) next ys ≡ with_bits s at (xs ++ ys)
unfolding with_bits
with_bits_more s at next xs ys h e l =
    ap₂ (λ (n : ℕ) (B : List ℕ). bytes n (take next B ++ (ys ++ drop (next + length ys) B))) (with_bits_length s at xs) (with_bits_bits s at xs h (omega arith))
    ∙ ap (bytes (length s)) (put_after (byte_bits s) xs ys at next e (rw length_byte_bits l))

module _ (s : List ℕ) (at : ℕ) where
  pub field_none : 0 ≡ field s at 0
  unfolding field number number_after
  field_none = refl

  pub field_16 : (k : ℕ) → k ≤ 16 → field s at k < 65536
  unfolding field
  field_16 k h = lt_of_lt_of_le (number_small k (drop at (byte_bits s)) (at_most_drop 1 at (byte_bits s) (byte_bits_le s))) (pow_mono {j = 16} h)

-- so many bits written: the bits are those of the bytes with the field put in
pub put_all : (s t : List ℕ) (at n x : ℕ) → at + n ≤ 8 * length s → length t ≡ length s → AtMost 255 t
    → byte_bits t ≡ paste (byte_bits s) at (bits n x) n → t ≡ with_bits s at (bits n x)
put_all s t at n x h l small e =
    byte_bits_injective t (with_bits s at (bits n x)) small (with_bits_bytes s at (bits n x) (bits_le n x)) (l ∙ sym (with_bits_length s at (bits n x)))
    (e ∙ rw (take_all n (bits n x) (rw length_bits (omega arith)), append_assoc)
    (sym (with_bits_bits s at (bits n x) (bits_le n x) (rw length_bits h) ∙ rw length_bits)))
