-- The laws of the field. The product is additive in each operand, for all numbers; so a law that is additive in each of its
-- variables holds of all bytes where it holds of the eight bytes with one bit set, which antt tests: so for `mul_comm` and `mul_one`.
-- The other laws are shown by the digits of an operand, and the inverses and the order of x by a test of each.
use mathlib.Core.Path.{◌≡◌, refl, sym, ap, ◌∙◌}
use mathlib.Core.Logic.{◌≢◌}
use Prim.Native.Nat.{ℕ, zero, suc, ◌+◌, ◌-◌, ◌*◌, ◌/◌, ◌%◌, ◌^◌, ◌<◌}
use native.Mathlib.Nat as N
use native.Mathlib.Nat.{mod-lt, zero-add, suc-add}
use native.Mathlib.Omega.{arith}
use native.Mathlib.Numerals.{add-one, one-add}
use lib.Arith.{lt-one}
use lib.Dec.{T, lit<, ltb, ltb→lt}
use lib.Pow.{split, pow_pos, shr_lt, mod-mod-pow, field}
use lib.Bits.{bit_xor, xor_shr, xor_shifted, xor_self, xor_zero_r, xor_lt}
use Rattle.basics.proofs.Test.{at, along, walk, is_not, is_not_lem, same, same_1, same_2}
use Rattle.basics.proofs.Xor.{digit, xor_dbl, xor_half, xor_low, xor_four}
use Rattle.field.specs.Field.{dbl_n, mul_bits, mul_n, pow_n, even_powers, inv_n}

-- ---- the product is additive in each operand

-- a digit is 0 or 1
by_digit : (P : ℕ → Type 0) → P 0 → P 1 → (d : ℕ) → d < 2 → P d
by_digit P p q zero h = p
by_digit P p q (suc zero) h = q
by_digit P p q (suc (suc d)) h = absurd (omega arith)

times_xor : (d a b : ℕ) → d < 2 → d * bit_xor a b ≡ bit_xor (d * a) (d * b)
times_xor d a b h = by_digit (λ (d : ℕ). d * bit_xor a b ≡ bit_xor (d * a) (d * b)) (simp N.zero-mul) (simp N.one-mul) d h

xor_times : (d e a : ℕ) → d < 2 → e < 2 → bit_xor d e * a ≡ bit_xor (d * a) (e * a)
xor_times d e a h k =
    by_digit (λ (d : ℕ). bit_xor d e * a ≡ bit_xor (d * a) (e * a)) (simp N.zero-mul)
    (by_digit (λ (e : ℕ). bit_xor 1 e * a ≡ bit_xor (1 * a) (e * a)) (simp (N.zero-mul, N.one-mul, xor_zero_r)) (simp (N.zero-mul, N.one-mul, xor_self)) e k) d h

pub dbl_xor : (a b : ℕ) → dbl_n (bit_xor a b) ≡ bit_xor (dbl_n a) (dbl_n b)
unfolding dbl_n
dbl_xor a b =
    rw (xor_dbl a b, xor_shr a b 7, xor_low (a / 128) (b / 128), xor_times (a / 128 % 2) (b / 128 % 2) 0x11D (digit (a / 128)) (digit (b / 128)))
    (xor_four (a * 2) (b * 2) (a / 128 % 2 * 0x11D) (b / 128 % 2 * 0x11D))

bits_xor_l : (k a b c : ℕ) → mul_bits k (bit_xor a b) c ≡ bit_xor (mul_bits k a c) (mul_bits k b c)
unfolding mul_bits
bits_xor_l zero a b c = refl
bits_xor_l (suc k) a b c =
    rw (times_xor (c % 2) a b (digit c), bits_xor_l k a b (c / 2), dbl_xor (mul_bits k a (c / 2)) (mul_bits k b (c / 2)))
    (xor_four (c % 2 * a) (c % 2 * b) (dbl_n (mul_bits k a (c / 2))) (dbl_n (mul_bits k b (c / 2))))

bits_xor_r : (k a b c : ℕ) → mul_bits k a (bit_xor b c) ≡ bit_xor (mul_bits k a b) (mul_bits k a c)
unfolding mul_bits
bits_xor_r zero a b c = refl
bits_xor_r (suc k) a b c =
    rw (xor_low b c, xor_half b c, xor_times (b % 2) (c % 2) a (digit b) (digit c), bits_xor_r k a (b / 2) (c / 2), dbl_xor (mul_bits k a (b / 2)) (mul_bits k a (c / 2)))
    (xor_four (b % 2 * a) (c % 2 * a) (dbl_n (mul_bits k a (b / 2))) (dbl_n (mul_bits k a (c / 2))))

pub mul_xor_l : (a b c : ℕ) → mul_n (bit_xor a b) c ≡ bit_xor (mul_n a c) (mul_n b c)
unfolding mul_n
mul_xor_l = bits_xor_l 8

pub mul_xor_r : (a b c : ℕ) → mul_n a (bit_xor b c) ≡ bit_xor (mul_n a b) (mul_n a c)
unfolding mul_n
mul_xor_r = bits_xor_r 8

-- only the eight low bits of the second count
bits_mod : (k a b : ℕ) → mul_bits k a (b % 2 ^ k) ≡ mul_bits k a b
unfolding mul_bits
bits_mod zero a b = refl
bits_mod (suc k) a b = rw (← (add-one k), mod-mod-pow b k 1, field b k 1, bits_mod k a (b / 2))

pub mul_mod : (a b : ℕ) → mul_n a (b % 256) ≡ mul_n a b
unfolding mul_n
mul_mod = bits_mod 8

-- ---- what is additive is known by its values at the bytes with one bit set

abbrev pub Additive : (ℕ → ℕ) → Type 0
Additive f = (a b : ℕ) → f (bit_xor a b) ≡ bit_xor (f a) (f b)

module _ (f g : ℕ → ℕ) (hf : Additive f) (hg : Additive g) where
  zeros : f 0 ≡ g 0
  zeros = cc (hf 0 0, hg 0 0, xor_self (f 0), xor_self (g 0))

  pub on_bits : (k : ℕ) → ((i : ℕ) → i < k → f (2 ^ i) ≡ g (2 ^ i)) → (a : ℕ) → a < 2 ^ k → f a ≡ g a
  on_bits zero e a h = rw (lt-one h) zeros
  on_bits (suc k) e a h =
      let high : f (a / 2 ^ k * 2 ^ k) ≡ g (a / 2 ^ k * 2 ^ k) =
      by_digit (λ (d : ℕ). f (d * 2 ^ k) ≡ g (d * 2 ^ k)) (simp N.zero-mul zeros) (simp N.one-mul (e k (omega arith))) (a / 2 ^ k)
      (shr_lt 1 k (rw one-add h)) in
      let low : f (a % 2 ^ k) ≡ g (a % 2 ^ k) = on_bits k (λ i hi. e i (omega arith)) (a % 2 ^ k) (mod-lt a (pow_pos k)) in
      let parts : a ≡ bit_xor (a / 2 ^ k * 2 ^ k) (a % 2 ^ k) = sym (split a k) ∙ sym (xor_shifted (a / 2 ^ k) k (a % 2 ^ k) (mod-lt a (pow_pos k))) in
      rw parts (cc (hf (a / 2 ^ k * 2 ^ k) (a % 2 ^ k), hg (a / 2 ^ k * 2 ^ k) (a % 2 ^ k)))

-- ---- the results are bytes

pub dbl_lt : (a : ℕ) → a < 256 → dbl_n a < 256
unfolding dbl_n
dbl_lt a ha = ltb→lt (dbl_n a) 256 (at 256 (λ a. ltb (dbl_n a) 256) tt a ha)

pub digit_mul_lt : (d a : ℕ) → d < 2 → a < 256 → d * a < 256
digit_mul_lt d a h ha = by_digit (λ (d : ℕ). d * a < 256) (simp N.zero-mul (lit< tt)) (simp N.one-mul ha) d h

bits_lt : (k a b : ℕ) → a < 256 → mul_bits k a b < 256
unfolding mul_bits
bits_lt zero a b ha = lit< tt
bits_lt (suc k) a b ha =
    xor_lt 8 (b % 2 * a) (dbl_n (mul_bits k a (b / 2))) (digit_mul_lt (b % 2) a (digit b) ha) (dbl_lt (mul_bits k a (b / 2)) (bits_lt k a (b / 2) ha))

pub mul_lt : (a b : ℕ) → a < 256 → mul_n a b < 256
unfolding mul_n
mul_lt = bits_lt 8

even_powers_lt : (k a : ℕ) → a < 256 → even_powers k a < 256
unfolding even_powers
even_powers_lt zero a ha = lit< tt
even_powers_lt (suc k) a ha = mul_lt (mul_n a a) (even_powers k (mul_n a a)) (mul_lt a a ha)

pub inv_lt : (a : ℕ) → a < 256 → inv_n a < 256
unfolding inv_n
inv_lt = even_powers_lt 7

-- ---- the laws

pub mul_zero : (a : ℕ) → mul_n a 0 ≡ 0
mul_zero a = mul_xor_r a 0 0 ∙ xor_self (mul_n a 0)

pub zero_mul : (a : ℕ) → mul_n 0 a ≡ 0
zero_mul a = mul_xor_l 0 0 a ∙ xor_self (mul_n 0 a)

comm_bits : (i j : ℕ) → i < 8 → j < 8 → mul_n (2 ^ i) (2 ^ j) ≡ mul_n (2 ^ j) (2 ^ i)
unfolding mul_n
comm_bits = same_2 8 (λ i j. mul_n (2 ^ i) (2 ^ j)) (λ i j. mul_n (2 ^ j) (2 ^ i)) tt

pub mul_comm : (a b : ℕ) → a < 256 → b < 256 → mul_n a b ≡ mul_n b a
mul_comm a b ha hb =
    on_bits (λ a. mul_n a b) (mul_n b) (λ c d. mul_xor_l c d b) (mul_xor_r b) 8
    (λ i hi. on_bits (mul_n (2 ^ i)) (λ b. mul_n b (2 ^ i)) (mul_xor_r (2 ^ i)) (λ c d. mul_xor_l c d (2 ^ i)) 8
    (λ j hj. comm_bits i j hi hj) b hb) a ha

pub mul_one : (a : ℕ) → a < 256 → mul_n a 1 ≡ a
unfolding mul_n mul_bits
mul_one a ha = on_bits (λ a. mul_n a 1) (λ a. a) (λ x y. mul_xor_l x y 1) (λ x y. refl) 8 (same_1 8 (λ i. mul_n (2 ^ i) 1) (λ i. 2 ^ i) tt) a ha

pub one_mul : (a : ℕ) → a < 256 → mul_n 1 a ≡ a
one_mul a ha = mul_comm 1 a (lit< tt) ha ∙ mul_one a ha

-- x passes through a product, so a product does
bits_dbl : (k a b : ℕ) → mul_bits k (dbl_n a) b ≡ dbl_n (mul_bits k a b)
unfolding mul_bits
bits_dbl zero a b = refl
bits_dbl (suc k) a b =
    rw (dbl_xor (b % 2 * a) (dbl_n (mul_bits k a (b / 2))), bits_dbl k a (b / 2))
    (ap (λ (x : ℕ). bit_xor x (dbl_n (dbl_n (mul_bits k a (b / 2)))))
    (by_digit (λ (d : ℕ). d * dbl_n a ≡ dbl_n (d * a)) (simp N.zero-mul) (simp N.one-mul) (b % 2) (digit b)))

pub mul_dbl : (a b : ℕ) → mul_n (dbl_n a) b ≡ dbl_n (mul_n a b)
unfolding mul_n
mul_dbl = bits_dbl 8

pub dbl_mul : (a b : ℕ) → a < 256 → b < 256 → mul_n a (dbl_n b) ≡ dbl_n (mul_n a b)
dbl_mul a b ha hb = mul_comm a (dbl_n b) ha (dbl_lt b hb) ∙ mul_dbl b a ∙ ap dbl_n (mul_comm b a hb ha)

bits_assoc : (k a b c : ℕ) → a < 256 → b < 256 → mul_bits k (mul_n a b) c ≡ mul_n a (mul_bits k b c)
unfolding mul_bits
bits_assoc zero a b c ha hb = sym (mul_zero a)
bits_assoc (suc k) a b c ha hb =
    rw (mul_xor_r a (c % 2 * b) (dbl_n (mul_bits k b (c / 2))), dbl_mul a (mul_bits k b (c / 2)) ha (bits_lt k b (c / 2) hb), bits_assoc k a b (c / 2) ha hb)
    (ap (λ (x : ℕ). bit_xor x (dbl_n (mul_n a (mul_bits k b (c / 2)))))
    (by_digit (λ (d : ℕ). d * mul_n a b ≡ mul_n a (d * b)) (simp (N.zero-mul, mul_zero)) (simp N.one-mul) (c % 2) (digit c)))

pub mul_assoc : (a b c : ℕ) → a < 256 → b < 256 → mul_n (mul_n a b) c ≡ mul_n a (mul_n b c)
unfolding mul_n
mul_assoc = bits_assoc 8

-- ---- inverses

inv_tested : T (same 255 (λ a. mul_n (suc a) (inv_n (suc a))) (λ a. 1))
unfolding inv_n
inv_tested = tt

pub mul_inv : (a : ℕ) → a < 256 → a ≢ 0 → mul_n a (inv_n a) ≡ 1
mul_inv zero ha n = absurd (n refl)
mul_inv (suc a) ha n = same_1 255 (λ a. mul_n (suc a) (inv_n (suc a))) (λ a. 1) inv_tested a (omega arith)

pub mul_cancel : (a b c : ℕ) → a < 256 → b < 256 → c < 256 → a ≢ 0 → mul_n a b ≡ mul_n a c → b ≡ c
mul_cancel a b c ha hb hc n e = sym (back b hb) ∙ ap (mul_n (inv_n a)) e ∙ back c hc
  where
    back : (b : ℕ) → b < 256 → mul_n (inv_n a) (mul_n a b) ≡ b
    back b hb =
        sym (mul_assoc (inv_n a) a b (inv_lt a ha) ha)
        ∙ ap (λ (x : ℕ). mul_n x b) (mul_comm (inv_n a) a (inv_lt a ha) ha ∙ mul_inv a ha n)
        ∙ one_mul b hb

pub no_zero_divisors : (a b : ℕ) → a < 256 → b < 256 → a ≢ 0 → mul_n a b ≡ 0 → b ≡ 0
no_zero_divisors a b ha hb n e = mul_cancel a b 0 ha hb (lit< tt) n (e ∙ sym (mul_zero a))

pub inv_unique : (a b : ℕ) → a < 256 → b < 256 → a ≢ 0 → mul_n a b ≡ 1 → b ≡ inv_n a
inv_unique a b ha hb n e = mul_cancel a b (inv_n a) ha hb (inv_lt a ha) n (e ∙ sym (mul_inv a ha n))

-- ---- the powers of x

pub pow_lt : (i : ℕ) → pow_n i < 256
unfolding pow_n
pow_lt zero = lit< tt
pow_lt (suc i) = dbl_lt (pow_n i) (pow_lt i)

pub two_mul : (a : ℕ) → a < 256 → mul_n 2 a ≡ dbl_n a
unfolding dbl_n
two_mul a ha = mul_dbl 1 a ∙ ap dbl_n (one_mul a ha)

pub pow_add : (i j : ℕ) → mul_n (pow_n i) (pow_n j) ≡ pow_n (i + j)
unfolding pow_n
pow_add zero j = rw zero-add (one_mul (pow_n j) (pow_lt j))
pow_add (suc i) j = rw (mul_dbl (pow_n i) (pow_n j), pow_add i j, suc-add i j)

pub pow_255 : pow_n 255 ≡ 1
unfolding pow_n
pow_255 = refl

dbl_nonzero : (a : ℕ) → a < 256 → a ≢ 0 → dbl_n a ≢ 0
unfolding dbl_n
dbl_nonzero zero ha n = absurd (n refl)
dbl_nonzero (suc a) ha n = is_not_lem 0 (dbl_n (suc a)) (at 255 (λ a. is_not 0 (dbl_n (suc a))) tt a (omega arith))

pub pow_nonzero : (i : ℕ) → pow_n i ≢ 0
unfolding pow_n
pow_nonzero zero = λ e. omega arith
pow_nonzero (suc i) = dbl_nonzero (pow_n i) (pow_lt i) (pow_nonzero i)

ones_tested : T (along 254 dbl_n (is_not 1) (pow_n 1))
unfolding pow_n
ones_tested = tt

not_one : (i : ℕ) → i < 254 → pow_n (1 + i) ≢ 1
unfolding pow_n
not_one i h = is_not_lem 1 (pow_n (1 + i)) (walk pow_n dbl_n (λ i. refl) (is_not 1) 254 1 ones_tested i h)

-- two powers below 255 are apart: their quotient would be 1
pow_apart : (i j : ℕ) → i < j → j < 255 → pow_n i ≢ pow_n j
pow_apart i j l h e =
    let d : ℕ = 1 + (j - suc i) in
    let there : i + d ≡ j = omega arith in
    not_one (j - suc i) (omega arith)
    (mul_cancel (pow_n i) (pow_n d) 1 (pow_lt i) (pow_lt d) (lit< tt) (pow_nonzero i) (pow_add i d ∙ ap pow_n there ∙ sym e ∙ sym (mul_one (pow_n i) (pow_lt i))))

pub pow_distinct : (i j : ℕ) → i < 255 → j < 255 → pow_n i ≡ pow_n j → i ≡ j
pow_distinct i j hi hj e =
    let p : ¬ (i < j) = λ l. pow_apart i j l hj e in
    let q : ¬ (j < i) = λ l. pow_apart j i l hi (sym e) in
    omega arith
