-- The value of a word at 2^i is the i-th power sum of the theory over the word's bytes and its places' locators: Horner's form, multiplied out, has at place j
-- the power N - 1 - j of 2^i, which is the i-th power of the locator. So a codeword is a word whose first n power sums vanish.
use mathlib.Core.Path.{◌≡◌, sym, ap, ap₂, ◌∙◌}
use mathlib.Core.List.{List, [], ◌∷◌}
use Prim.Native.Nat.{ℕ, zero, suc, ◌-◌, ◌*◌, ◌≤◌, ◌<◌}
use native.Mathlib.Nat as N
use native.Mathlib.Omega.{arith}
use lib.Dec.{lit<}
use lib.Bits.{bit_xor, xor_lt}
use lib.ListN.{length, get_or, get_or-eq_default}
use Rattle.basics.proofs.Build.{build_length, build_get}
use Rattle.field.specs.Field.{mul_n, pow_n}
use Rattle.field.proofs.Byte.{Byte, val, elt, elt_add, elt_mul, val_elt}
use Rattle.field.proofs.Laws.{mul_lt, pow_lt, pow_add}
use Rattle.theory.proofs.Field.{Field}
use Rattle.theory.proofs.Sum.{sum, pow}
use Rattle.theory.proofs.Places.{psum}
use Rattle.theory.proofs.Algebra.{ring, sum_cong, sum_front, zero-⊗, zero-⊕}
use Rattle.theory.proofs.Gf.{gf256, locators}
use Rattle.code.specs.Code.{value, value_after, Codeword, syndromes_of}
use Rattle.code.specs.Lanes.{lanes, padded}
use Rattle.code.proofs.Division.{zeros_behind}

-- one turn of Horner's form, and its end, in any field
module _ (K : Field) where
  open K use {F, ◌⊕◌, ◌⊗◌, 𝟘, 𝟙}

  one_turn : (y x c p s : F) → (y ⊗ x ⊕ c) ⊗ p ⊕ s ≡ y ⊗ (x ⊗ p) ⊕ (c ⊗ p ⊕ s)
  one_turn y x c p s = simp ring

  last_turn : (y : F) → y ≡ y ⊗ 𝟙 ⊕ 𝟘
  last_turn y = simp ring

open gf256 use {◌⊕◌, ◌⊗◌, 𝟘}

-- a word as the theory reads it: a function of its places
abbrev pub word : List ℕ → ℕ → Byte
word w j = elt (get_or w j 0)

abbrev pub Bytes : List ℕ → Type 0
Bytes w = (j : ℕ) → j < length w → get_or w j 0 < 256

pub bytes_rest : (c : ℕ) (cs : List ℕ) → Bytes (c ∷ cs) → Bytes cs
bytes_rest c cs b j h = b (suc j) (omega arith)

-- the i-th power sum of a word's places
abbrev pub power_sum : List ℕ → ℕ → Byte
power_sum w i = psum gf256 (length w) (locators (length w)) (word w) i

after_lt : (x y : ℕ) (w : List ℕ) → y < 256 → Bytes w → value_after x y w < 256
unfolding value_after
after_lt x y [] h b = h
after_lt x y (c ∷ cs) h b = after_lt x (bit_xor (mul_n y x) c) cs (xor_lt 8 (mul_n y x) c (mul_lt y x h) (b 0 (omega arith))) (bytes_rest c cs b)

pub value_lt : (x : ℕ) (w : List ℕ) → Bytes w → value x w < 256
unfolding value
value_lt x w = after_lt x 0 w (lit< tt)

-- Horner's form, multiplied out
after_sum : (x y : ℕ) (w : List ℕ) → y < 256 → Bytes w
    → elt (value_after x y w) ≡ elt y ⊗ pow gf256 (elt x) (length w) ⊕ sum gf256 (length w) (λ j. word w j ⊗ pow gf256 (elt x) (length w - suc j))
unfolding value_after pow sum
after_sum x y [] h b = last_turn gf256 (elt y)
after_sum x y (c ∷ cs) h b =
    let X : Byte = elt x in
    let n : ℕ = length cs in
    after_sum x (bit_xor (mul_n y x) c) cs (xor_lt 8 (mul_n y x) c (mul_lt y x h) (b 0 (omega arith))) (bytes_rest c cs b)
    ∙ ap (λ a. a ⊗ pow gf256 X n ⊕ sum gf256 n (λ j. word cs j ⊗ pow gf256 X (n - suc j))) (elt_add (mul_n y x) c ∙ ap (λ a. a ⊕ elt c) (elt_mul y x h))
    ∙ one_turn gf256 (elt y) X (elt c) (pow gf256 X n) (sum gf256 n (λ j. word cs j ⊗ pow gf256 X (n - suc j)))
    ∙ ap (λ a. elt y ⊗ (X ⊗ pow gf256 X n) ⊕ a)
    (ap₂ ◌⊕◌ (ap (λ k. elt c ⊗ pow gf256 X k) (first n)) (sum_cong gf256 n (λ k l. ap (λ m. word cs k ⊗ pow gf256 X m) (later n k)))
    ∙ sym (sum_front gf256 n (λ j. word (c ∷ cs) j ⊗ pow gf256 X (suc n - suc j))))
  where
    first : (n : ℕ) → n ≡ suc n - suc 0
    first n = omega arith

    later : (n k : ℕ) → n - suc k ≡ suc n - suc (suc k)
    later n k = omega arith

-- powers of powers
pow_elt : (a k : ℕ) → pow gf256 (elt (pow_n a)) k ≡ elt (pow_n (a * k))
unfolding pow pow_n
pow_elt a zero = ap (λ m. elt (pow_n m)) (sym (N.mul-zero a))
pow_elt a (suc k) =
    ap (λ z. elt (pow_n a) ⊗ z) (pow_elt a k) ∙ sym (elt_mul (pow_n a) (pow_n (a * k)) (pow_lt a)) ∙ ap elt (pow_add a (a * k))
    ∙ ap (λ m. elt (pow_n m)) (N.add_comm a (a * k) ∙ sym (N.mul-suc a k))

pub value_sum : (i : ℕ) (w : List ℕ) → Bytes w → elt (value (pow_n i) w) ≡ power_sum w i
unfolding value psum locators
value_sum i w b =
    after_sum (pow_n i) 0 w (lit< tt) b
    ∙ ap (λ a. a ⊕ sum gf256 (length w) (λ j. word w j ⊗ pow gf256 (elt (pow_n i)) (length w - suc j))) (zero-⊗ gf256 (pow gf256 (elt (pow_n i)) (length w)))
    ∙ zero-⊕ gf256 (sum gf256 (length w) (λ j. word w j ⊗ pow gf256 (elt (pow_n i)) (length w - suc j)))
    ∙ sum_cong gf256 (length w)
    (λ j l. ap (λ z. word w j ⊗ z)
    (pow_elt i (length w - suc j) ∙ ap (λ m. elt (pow_n m)) (N.mul_comm i (length w - suc j)) ∙ sym (pow_elt (length w - suc j) i)))

-- the value is 0 where the sum is
pub sum_of_value : (i : ℕ) (w : List ℕ) → Bytes w → value (pow_n i) w ≡ 0 → power_sum w i ≡ 𝟘
sum_of_value i w b e = sym (value_sum i w b) ∙ ap elt e

pub value_of_sum : (i : ℕ) (w : List ℕ) → Bytes w → power_sum w i ≡ 𝟘 → value (pow_n i) w ≡ 0
value_of_sum i w b e = sym (val_elt (value (pow_n i) w) (value_lt (pow_n i) w b)) ∙ ap val (value_sum i w b ∙ e) ∙ val_elt 0 (lit< tt)

-- a codeword in the theory's terms, and back
pub codeword_sums : {n : ℕ} {c : List ℕ} → Codeword n c → (i : ℕ) → i < n → power_sum c i ≡ 𝟘
codeword_sums {n} {c} k i h = sum_of_value i c k.bytes (k.zeros i h)

pub sums_codeword : {n : ℕ} {c : List ℕ} → Bytes c → ((i : ℕ) → i < n → power_sum c i ≡ 𝟘) → Codeword n c
sums_codeword {n} {c} b z = record { bytes = b; zeros = λ i h. value_of_sum i c b (z i h) }

-- what `syndromes` answers: the first n power sums, and zeros
pub syndromes_get : (n i : ℕ) (w : List ℕ) → i < n → get_or (padded lanes (syndromes_of n w)) i 0 ≡ value (pow_n i) w
unfolding syndromes_of padded
syndromes_get n i w h = zeros_behind (syndromes_of n w) (lanes - length (syndromes_of n w)) i ∙ build_get (λ k. value (pow_n k) w) n i h

pub syndromes_zero : (n i : ℕ) (w : List ℕ) → n ≤ i → get_or (padded lanes (syndromes_of n w)) i 0 ≡ 0
unfolding syndromes_of padded
syndromes_zero n i w h = zeros_behind (syndromes_of n w) (lanes - length (syndromes_of n w)) i ∙ get_or-eq_default (syndromes_of n w) 0 (rw build_length h)

pub syndromes_sum : (n i : ℕ) (w : List ℕ) → i < n → Bytes w → elt (get_or (padded lanes (syndromes_of n w)) i 0) ≡ power_sum w i
syndromes_sum n i w h b = ap elt (syndromes_get n i w h) ∙ value_sum i w b
