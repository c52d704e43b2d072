-- Laws of bits and bytes that the cursor stands on: bounds, a number of n bits, bytes from bits and back.
-- Bits go most significant first, so that each law peels the front of a list.
use mathlib.Core.Path.{◌≡◌, refl, sym, ap, ap₂, ◌∙◌}
use mathlib.Core.Bool.{Bool, true, false, ◌&&◌}
use mathlib.Core.List.{List, [], ◌∷◌, ◌++◌}
use mathlib.Core.Logic.{◌⊎◌, inl, inr}
use Prim.Native.Nat.{ℕ, zero, suc, ◌*◌, ◌^◌, ◌<◌, ◌≤◌, suc-le-suc}
use native.Mathlib.Nat.{le_of_suc-le-suc, not-suc-le-zero, lt_of_lt_of_le}
use native.Mathlib.Omega.{arith}
use lib.Dec.{T, ltb, eqb, eqb→eq}
use borrow.Author.Tests.{ltb-true, ltb-false}
use lib.Pow.{pow_mono}
use lib.ListN.{length, set, take, drop, length-take, length-drop, take-append-drop}
use lib.Seq.{length-take-le}
use Rattle.basics.specs.Bits.{bits, byte_bits, number, bytes}
use Rattle.basics.specs.Lists.{AtMost, same}
use Rattle.basics.proofs.Bits.{number_lt, bits_number}

and_left : (a b : Bool) → T (a && b) → T a
and_left true b t = tt
and_left false b t = absurd t

and_right : (a b : Bool) → T (a && b) → T b
and_right true b t = t
and_right false b t = absurd t

pub order : (a b : ℕ) → (a < b) ⊎ (b ≤ a)
order a b = decide (ltb a b) refl
  where
    decide : (t : Bool) → ltb a b ≡ t → (a < b) ⊎ (b ≤ a)
    decide true e = inl (ltb-true a b e)
    decide false e = inr (ltb-false a b e)

-- two lists that the test finds equal
pub same_lists : (xs ys : List ℕ) → T (same xs ys) → xs ≡ ys
unfolding same
same_lists [] [] t = refl
same_lists [] (y ∷ ys) t = absurd t
same_lists (x ∷ xs) [] t = absurd t
same_lists (x ∷ xs) (y ∷ ys) t =
    ap₂ ◌∷◌ (eqb→eq x y (and_left (eqb x y) (same xs ys) t)) (same_lists xs ys (and_right (eqb x y) (same xs ys) t))

-- ---- bounds

pub at_most_take : (m n : ℕ) (xs : List ℕ) → AtMost m xs → AtMost m (take n xs)
at_most_take m zero xs h i l = absurd (not-suc-le-zero l)
at_most_take m (suc n) [] h i l = absurd (not-suc-le-zero l)
at_most_take m (suc n) (x ∷ xs) h zero l = h 0 (omega arith)
at_most_take m (suc n) (x ∷ xs) h (suc i) l = at_most_take m n xs (λ k l. h (suc k) (suc-le-suc l)) i (le_of_suc-le-suc l)

pub at_most_drop : (m n : ℕ) (xs : List ℕ) → AtMost m xs → AtMost m (drop n xs)
at_most_drop m zero xs h = h
at_most_drop m (suc n) [] h = h
at_most_drop m (suc n) (x ∷ xs) h = at_most_drop m n xs (λ k l. h (suc k) (suc-le-suc l))

pub at_most_set : (m : ℕ) (xs : List ℕ) (j y : ℕ) → AtMost m xs → y ≤ m → AtMost m (set xs j y)
at_most_set m [] j y h hy i l = absurd (not-suc-le-zero l)
at_most_set m (x ∷ xs) zero y h hy zero l = hy
at_most_set m (x ∷ xs) zero y h hy (suc i) l = h (suc i) l
at_most_set m (x ∷ xs) (suc j) y h hy zero l = h 0 (omega arith)
at_most_set m (x ∷ xs) (suc j) y h hy (suc i) l = at_most_set m xs j y (λ k l. h (suc k) (suc-le-suc l)) hy i (le_of_suc-le-suc l)

-- ---- numbers

-- a number of n bits
pub number_small : (n : ℕ) (l : List ℕ) → AtMost 1 l → number (take n l) < 2 ^ n
number_small n l h = lt_of_lt_of_le (number_lt (take n l) (at_most_take 1 n l h)) (pow_mono {j = n} (rw length-take (omega arith)))

-- ---- bytes from bits, and back

pub byte_bits_bytes : (k : ℕ) (bs : List ℕ) → length bs ≡ 8 * k → AtMost 1 bs → byte_bits (bytes k bs) ≡ bs
unfolding bytes byte_bits
byte_bits_bytes zero [] e h = refl
byte_bits_bytes zero (b ∷ bs) e h = absurd (omega arith)
byte_bits_bytes (suc k) bs e h =
    let l : length (take 8 bs) ≡ 8 = length-take-le 8 bs (omega arith) in
    ap₂ ◌++◌ (ap (λ (n : ℕ). bits n (number (take 8 bs))) (sym l) ∙ bits_number (take 8 bs) (at_most_take 1 8 bs h))
    (byte_bits_bytes k (drop 8 bs) (rw length-drop (omega arith)) (at_most_drop 1 8 bs h))
    ∙ take-append-drop 8 bs

pub bytes_small : (k : ℕ) (bs : List ℕ) → AtMost 1 bs → AtMost 255 (bytes k bs)
unfolding bytes
bytes_small zero bs h i l = absurd (not-suc-le-zero l)
bytes_small (suc k) bs h zero l = le_of_suc-le-suc (number_small 8 bs h)
bytes_small (suc k) bs h (suc i) l = bytes_small k (drop 8 bs) (at_most_drop 1 8 bs h) i (le_of_suc-le-suc l)
