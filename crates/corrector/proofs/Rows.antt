-- What a row stands for after each of the steps on lanes.
use mathlib.Core.Path.{◌≡◌, refl, sym, ap, ap₂, ◌∙◌}
use mathlib.Core.Logic.{by_cases}
use mathlib.Core.List.{List, [], ◌∷◌}
use Prim.Native.Nat.{ℕ, zero, suc, ◌+◌, ◌≤◌, ◌<◌}
use native.Mathlib.Numerals.{one-add}
use native.Mathlib.Decide.{dec_lt}
use native.Mathlib.Omega.{arith}
use mir.Val.{Fits}
use mir.Syntax.{w8}
use lib.Bits.{bit_xor, xor_lt}
use lib.ListN.{length, get_or, replicate, get_or-eq_default}
use Rattle.std.specs.List.{fold}
use Rattle.basics.specs.Build.{build}
use Rattle.basics.proofs.Build.{build_get, build_length}
use Rattle.field.proofs.Laws.{mul_lt}
use Rattle.field.proofs.Byte.{Byte, elt, add, elt_add, elt_mul}
use Rattle.theory.proofs.Sum.{sum}
use Rattle.theory.proofs.Run.{act, Below, shift, mix}
use Rattle.theory.proofs.Places.{erase}
use Rattle.theory.proofs.Algebra.{zero-⊕, zero-⊗, ⊕_zero, ⊕_assoc, ⊕_comm, ⊗_comm, sum_cong, sum_front}
use Rattle.theory.proofs.Massey.{mix_below}
use Rattle.theory.proofs.Gf.{gf256}
use Rattle.corrector.specs.Lanes.{filled, times_plus, lowered, late, raised, poly}
use Rattle.corrector.proofs.Late.{late_lt}
open gf256 use {◌⊕◌, ◌⊗◌, 𝟘, 𝟙, inv}

-- a row of bytes
pub record Row (a : List ℕ) : Type 0 where
  pub long : length a ≡ 32
  pub bytes : (k : ℕ) → get_or a k 0 < 256

-- as a function's row has it: 32 values of eight bits
pub row : (a : List ℕ) → length a ≡ 32 → ((k : ℕ) → Fits w8 (get_or a k 0)) → Row a
row a long fits = record { long = long; bytes = λ k. let f : Fits w8 (get_or a k 0) = fits k in omega (arith, f) }

pub poly_past : (a : List ℕ) → length a ≡ 32 → (k : ℕ) → 32 ≤ k → poly a k ≡ 𝟘
poly_past a l k h = ap elt (get_or-eq_default a 0 (omega arith))

pub row_below : {a : List ℕ} → Row a → Below gf256 32 (poly a)
row_below {a} r k h = poly_past a r.long k h

pub built_past : (f : ℕ → ℕ) (k : ℕ) → 32 ≤ k → elt (get_or (build f 32) k 0) ≡ 𝟘
built_past f k h = ap elt (get_or-eq_default (build f 32) 0 (rw build_length h))

pub filled_at : (n x k : ℕ) → k < n → get_or {A = ℕ} (replicate n x) k 0 ≡ x
filled_at zero x k h = absurd (omega arith)
filled_at (suc n) x zero h = refl
filled_at (suc n) x (suc k) h = filled_at n x k (omega arith)

pub filled_length : (x : ℕ) → length (filled x) ≡ 32
unfolding filled
filled_length x = refl

pub poly_filled : (x k : ℕ) → k < 32 → poly (filled x) k ≡ elt x
unfolding filled
poly_filled x k h = ap elt (filled_at 32 x k h)

pub zeros_at : (n k : ℕ) → get_or {A = ℕ} (replicate n 0) k 0 ≡ 0
zeros_at zero k = refl
zeros_at (suc n) zero = refl
zeros_at (suc n) (suc k) = zeros_at n k

pub poly_zeros : (k : ℕ) → poly (filled 0) k ≡ 𝟘
unfolding filled
poly_zeros k = ap elt (zeros_at 32 k)

pub zeros_bytes : (k : ℕ) → get_or (filled 0) k 0 < 256
unfolding filled
zeros_bytes k = rw (zeros_at 32 k) (omega arith)

pub zeros_row : Row (filled 0)
zeros_row = record { long = filled_length 0; bytes = zeros_bytes }

pub unit_row : Row (1 ∷ replicate 31 0)
unit_row = record { long = refl; bytes = small }
  where
    small : (k : ℕ) → get_or (1 ∷ replicate 31 0) k 0 < 256
    small zero = omega arith
    small (suc k) = rw (zeros_at 31 k) (omega arith)

fold_total : (r : ℕ) (xs : List ℕ) → elt (fold bit_xor r xs) ≡ elt r ⊕ sum gf256 (length xs) (poly xs)
unfolding sum
fold_total r [] = sym (⊕_zero gf256 (elt r))
fold_total r (x ∷ xs) =
    fold_total (bit_xor r x) xs
    ∙ ap (λ y. y ⊕ sum gf256 (length xs) (poly xs)) (elt_add r x)
    ∙ ⊕_assoc gf256 (elt r) (elt x) (sum gf256 (length xs) (poly xs))
    ∙ ap (λ y. elt r ⊕ y) (sym (sum_front gf256 (length xs) (poly (x ∷ xs))))

-- the entries added one after the other
pub totalled : (a : List ℕ) (r : ℕ) → length a ≡ 32 → r ≡ fold bit_xor 0 a → elt r ≡ sum gf256 32 (poly a)
totalled a r l e = ap elt e ∙ fold_total 0 a ∙ zero-⊕ gf256 _ ∙ ap (λ n. sum gf256 n (poly a)) l

pub poly_times : (a b c : List ℕ) → Row a → length b ≡ 32 → length c ≡ 32 → (k : ℕ) → poly (times_plus a b c) k ≡ poly a k ⊗ poly b k ⊕ poly c k
unfolding times_plus
poly_times a b c ra lb lc k =
    by_cases
    (dec_lt k 32)
    (λ h. ap elt (build_get _ 32 k h) ∙ elt_add _ _ ∙ ap (λ x. add x (poly c k)) (elt_mul (get_or a k 0) (get_or b k 0) (ra.bytes k)))
    (λ h. built_past _ k (omega arith) ∙ sym (ap₂ (λ x y. x ⊗ poly b k ⊕ y) (poly_past a ra.long k (omega arith)) (poly_past c lc k (omega arith)) ∙ ap (λ x. x ⊕ 𝟘) (zero-⊗ gf256 (poly b k)) ∙ ⊕_zero gf256 𝟘))

pub poly_lowered : (a : List ℕ) (i k : ℕ) → length a ≡ 32 → poly (lowered a i) k ≡ poly a (i + k)
unfolding lowered
poly_lowered a i k l =
    by_cases
    (dec_lt k 32)
    (λ h. ap elt (build_get _ 32 k h))
    (λ h. built_past _ k (omega arith) ∙ sym (poly_past a l (i + k) (omega arith)))

late_shift : (k h : ℕ) (f : ℕ → ℕ) → elt (late k f h) ≡ shift gf256 k (λ x. elt (f x)) h
unfolding shift late
late_shift zero h f = refl
late_shift (suc k) zero f = refl
late_shift (suc k) (suc h) f = late_shift k h f

pub poly_raised : (a : List ℕ) (j k : ℕ) → k < 32 → poly (raised a j) k ≡ shift gf256 j (poly a) k
unfolding raised
poly_raised a j k h = ap elt (build_get _ 32 k h) ∙ late_shift j k (λ x. get_or a x 0)

pub lowered_length : (a : List ℕ) (i : ℕ) → length (lowered a i) ≡ 32
unfolding lowered
lowered_length a i = build_length _ 32

pub raised_length : (a : List ℕ) (j : ℕ) → length (raised a j) ≡ 32
unfolding raised
raised_length a j = build_length _ 32

pub raised_row : (a : List ℕ) (j : ℕ) → ((k : ℕ) → get_or a k 0 < 256) → Row (raised a j)
unfolding raised
raised_row a j b = record {
  long = build_length _ 32;
  bytes =
      λ k.
      by_cases
      (dec_lt k 32)
      (λ h. rw (build_get _ 32 k h) (late_lt j k _ b))
      (λ h. let e : get_or (raised a j) k 0 ≡ 0 = get_or-eq_default (raised a j) 0 (rw (raised_length a j) (omega arith)) in omega arith);
}

pub lowered_row : (a : List ℕ) (i : ℕ) → ((k : ℕ) → get_or a k 0 < 256) → Row (lowered a i)
unfolding lowered
lowered_row a i b = record {
  long = build_length _ 32;
  bytes =
      λ k.
      by_cases
      (dec_lt k 32)
      (λ h. rw (build_get _ 32 k h) (b (i + k)))
      (λ h. let e : get_or (lowered a i) k 0 ≡ 0 = get_or-eq_default (lowered a i) 0 (rw (lowered_length a i) (omega arith)) in omega arith);
}

pub times_bytes : (a b c : List ℕ) → Row a → ((k : ℕ) → get_or c k 0 < 256) → Row (times_plus a b c)
unfolding times_plus
times_bytes a b c ra bc = record {
  long = build_length _ 32;
  bytes =
      λ k.
      by_cases
      (dec_lt k 32)
      (λ h. rw (build_get _ 32 k h) (xor_lt 8 _ _ (mul_lt (get_or a k 0) (get_or b k 0) (ra.bytes k)) (bc k)))
      (λ h. let e : get_or (times_plus a b c) k 0 ≡ 0 = get_or-eq_default (times_plus a b c) 0 (rw build_length (omega arith)) in omega arith);
}

-- the sum of the lanes of a product with what is left of s from i on is what the polynomial is on that window
pub windowed : (a s : List ℕ) (i : ℕ) → Row a → length s ≡ 32 → sum gf256 32 (poly (times_plus a (lowered s i) (filled 0))) ≡ act gf256 32 (poly a) (poly s) i
unfolding act
windowed a s i ra ls =
    sum_cong gf256 32 (λ k h. poly_times a (lowered s i) (filled 0) ra (lowered_length s i) (filled_length 0) k ∙ ap₂ (λ x y. poly a k ⊗ x ⊕ y) (poly_lowered s i k ls) (poly_zeros k) ∙ ⊕_zero gf256 _)

pub turned : (x y z : Byte) → x ⊗ y ⊕ z ≡ z ⊕ y ⊗ x
turned x y z = ⊕_comm gf256 _ _ ∙ ap (λ w. z ⊕ w) (⊗_comm gf256 x y)

-- x times a row
pub scaled : (a c : List ℕ) (x : ℕ) → Row a → length c ≡ 32 → (k : ℕ) → poly (times_plus a (filled x) c) k ≡ poly a k ⊗ elt x ⊕ poly c k
scaled a c x ra lc k =
    poly_times a (filled x) c ra (filled_length x) lc k
    ∙ by_cases
    (dec_lt k 32)
    (λ h. ap (λ y. poly a k ⊗ y ⊕ poly c k) (poly_filled x k h))
    (λ h. ap (λ y. y ⊕ poly c k) (nothing (poly_past a ra.long k (omega arith)) (poly (filled x) k) ∙ sym (nothing (poly_past a ra.long k (omega arith)) (elt x))))
  where
    nothing : {y : Byte} → y ≡ 𝟘 → (z : Byte) → y ⊗ z ≡ 𝟘
    nothing e z = ap (λ y. y ⊗ z) e ∙ zero-⊗ gf256 z

-- one erasure
pub erased_row : (a : List ℕ) (x : ℕ) → Row a → (k : ℕ) → poly (times_plus a (filled x) (lowered a 1)) k ≡ erase gf256 (elt x) (poly a) k
unfolding erase
erased_row a x ra k = scaled a (lowered a 1) x ra (lowered_length a 1) k ∙ ap (λ y. poly a k ⊗ elt x ⊕ y) (poly_lowered a 1 k ra.long ∙ ap (poly a) (one-add k)) ∙ turned _ _ _

-- a moved up by j places, and q times b moved up by k places
pub mixed_poly :
    (a b : List ℕ) (j k q m m' : ℕ) → Row a → Row b → Below gf256 m (poly a) → Below gf256 m' (poly b) → j + m ≤ 32 → k + m' ≤ 32 →
    (h : ℕ) → mix gf256 j k (elt q) (poly a) (poly b) h ≡ poly (times_plus (raised b k) (filled q) (raised a j)) h
unfolding mix times_plus
mixed_poly a b j k q m m' ra rb oa ob la lb h =
    by_cases
    (dec_lt h 32)
    (λ l. sym (scaled (raised b k) (raised a j) q (raised_row b k rb.bytes) (raised_length a j) h ∙ ap₂ (λ x y. x ⊗ elt q ⊕ y) (poly_raised b k h l) (poly_raised a j h l) ∙ turned _ _ _))
    (λ l. mix_below gf256 j k (elt q) oa ob h (omega arith) (omega arith) ∙ sym (built_past _ h (omega arith)))
