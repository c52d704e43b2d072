-- Words of k bits at a distance of 7 or more: a copy stands for at most one of them.
-- Where two words differ, one of them differs from the copy, or the bit could not be read; so two words near one copy differ in at most 6 bits.
use mathlib.Core.Path.{◌≡◌, ap, ◌∙◌}
use mathlib.Core.Logic.{⊎_elim}
use mathlib.Core.Bool.{Bool}
use Prim.Native.Nat.{ℕ, zero, suc, ◌+◌, ◌-◌, ◌*◌, ◌/◌, ◌%◌, ◌^◌, ◌≤◌, ◌<◌}
use native.Mathlib.Nat.{lt_of_le_of_lt}
use native.Mathlib.Numerals.{add-one}
use native.Mathlib.Omega.{arith}
use lib.Arith.{lt-one}
use lib.Dec.{T, leb, leb→le, eqb, eqb→eq}
use lib.Pow.{shr_lt}
use lib.Bits.{bit_and, bit_xor, and_shr, and_mod, and_le_r}
use lib.Count.{ones, ones_in, ones_step, ones-le}
use Rattle.basics.proofs.Test.{all_2, at_2, at_3, either, either_cases}
use Rattle.basics.proofs.Xor.{digit, xor_half, xor_low, xor_assoc, xor_left_comm, xor_cancel}
use Rattle.words.specs.Words.{Near}

-- a count over k digits is the whole count of a number of k digits, and it computes on numerals
pub ones_in_lem : (k n : ℕ) → n < 2 ^ k → ones n ≡ ones_in k n
unfolding ones_in ones
ones_in_lem zero n h = rw (lt-one h)
ones_in_lem (suc k) n h = ones_step n ∙ ap (λ (x : ℕ). n % 2 + x) (ones_in_lem k (n / 2) (shr_lt k 1 (rw add-one h)))

-- so for what is left of a number under a mask of k digits
pub ones_under : (k a m : ℕ) → m < 2 ^ k → ones (bit_and a m) ≡ ones_in k (bit_and a m)
ones_under k a m h = ones_in_lem k (bit_and a m) (lt_of_le_of_lt (and_le_r a m) h)

pub ones_under_le : (k a m : ℕ) → m < 2 ^ k → ones (bit_and a m) ≤ k
ones_under_le k a m h = ones-le k (bit_and a m) (lt_of_le_of_lt (and_le_r a m) h)

-- where two words differ, one of them differs from a third, or the place is not in the mask
digits : (x y m : ℕ) → x < 2 → y < 2 → m < 2 → bit_xor x y + m ≤ bit_and x m + bit_and y m + 1
digits x y m hx hy hm =
    leb→le (bit_xor x y + m) (bit_and x m + bit_and y m + 1) (at_3 2 (λ x y m. leb (bit_xor x y + m) (bit_and x m + bit_and y m + 1)) tt x y m hx hy hm)

triangle : (k a b m : ℕ) → ones_in k (bit_xor a b) + ones_in k m ≤ ones_in k (bit_and a m) + ones_in k (bit_and b m) + k
unfolding ones_in
triangle zero a b m = omega arith
triangle (suc k) a b m =
    rw (xor_low a b, xor_half a b, and_mod a m 1, and_shr a m 1, and_mod b m 1, and_shr b m 1)
    (omega (arith, triangle k (a / 2) (b / 2) (m / 2), digits (a % 2) (b % 2) (m % 2) (digit a) (digit b) (digit m)))

xor_third : (w f g : ℕ) → bit_xor (bit_xor w f) (bit_xor w g) ≡ bit_xor f g
xor_third w f g = xor_assoc w f (bit_xor w g) ∙ ap (bit_xor w) (xor_left_comm f w g) ∙ xor_cancel w (bit_xor f g)

-- two words that a copy stands for differ in at most 6 bits
near_near : (k copy readable f g : ℕ) → Near k copy readable f → Near k copy readable g → ones_in k (bit_xor f g) ≤ 6
unfolding Near
near_near k copy readable f g p q = omega (arith, rw (xor_third copy f g) at (triangle k (bit_xor copy f) (bit_xor copy g) readable))

-- the words at two numbers below n differ in 7 of their k bits or more, unless they are one number's
abbrev pub are_far : (k n : ℕ) → (ℕ → ℕ) → Bool
are_far k n f = all_2 n (λ x y. either (eqb x y) (leb 7 (ones_in k (bit_xor (f x) (f y)))))

-- so a copy stands for at most one of them
pub word_only : (k n : ℕ) (f : ℕ → ℕ) → T (are_far k n f) → (copy readable x y : ℕ) → x < n → y < n
    → Near k copy readable (f x) → Near k copy readable (f y) → x ≡ y
word_only k n f t copy readable x y hx hy p q =
    ⊎_elim (eqb→eq x y) (λ far. absurd (omega (arith, near_near k copy readable (f x) (f y) p q, leb→le 7 (ones_in k (bit_xor (f x) (f y))) far)))
    (either_cases (eqb x y) _ (at_2 n (λ x y. either (eqb x y) (leb 7 (ones_in k (bit_xor (f x) (f y))))) t x y hx hy))

-- what the code compares with the bound is the definition's sum
pub is_near : (k copy readable word : ℕ) → readable < 2 ^ k → 2 * ones (bit_and (bit_xor copy word) readable) + (k - ones readable) ≤ 6
    → Near k copy readable word
unfolding Near
is_near k copy readable word h l = omega (arith, ones_under k (bit_xor copy word) readable h, ones_in_lem k readable h)

pub not_near : (k copy readable word : ℕ) → readable < 2 ^ k → 6 < 2 * ones (bit_and (bit_xor copy word) readable) + (k - ones readable)
    → Near k copy readable word → ⊥
unfolding Near
not_near k copy readable word h l n = omega (arith, ones_under k (bit_xor copy word) readable h, ones_in_lem k readable h)
