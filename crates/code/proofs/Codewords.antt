-- "checks are the remainder of data·x^n": data followed by its checks is a codeword, since the division leaves the value at each root of the generator as it is,
-- and no other checks make it one, since two words of n codewords with the same n values are equal.
use mathlib.Core.Path.{◌≡◌, refl, sym, ap, ap₂, ◌∙◌}
use mathlib.Core.Logic.{⊎_elim, by_cases}
use mathlib.Core.Bool.{not}
use mathlib.Core.List.{List, [], ◌∷◌, ◌++◌, map}
use Prim.Native.Nat.{ℕ, zero, suc, ◌+◌, ◌-◌, ◌≤◌, ◌<◌}
use native.Mathlib.Nat.{add-zero, eq-or-lt_of_le, le_of_suc-le-suc, le_refl}
use native.Mathlib.Decide.{dec_lt}
use native.Mathlib.Omega.{arith}
use lib.Dec.{lit<, eqb}
use lib.Bits.{bit_xor, xor_lt}
use lib.ListN.{length, get_or, replicate, length-append, length-replicate, length-map, get_or-eq_default}
use lib.Seq.{ext_get_or, get_or-append-add}
use Rattle.basics.specs.Lists.{AtMost}
use Rattle.basics.proofs.Sums.{tally_le}
use Rattle.field.specs.Field.{mul_n, pow_n}
use Rattle.field.proofs.Byte.{Byte, elt, elt_add, elt_mul}
use Rattle.field.proofs.Laws.{mul_lt, pow_lt}
use Rattle.theory.proofs.Field.{Field}
use Rattle.theory.proofs.Sum.{pow}
use Rattle.theory.proofs.Places.{psum}
use Rattle.theory.proofs.Algebra.{ring, ⊕_equal}
use Rattle.theory.proofs.Distance as theory
use Rattle.theory.proofs.Gf.{gf256, locators, locators_apart}
use Rattle.code.specs.Code.{value, value_after, plus, generator, divided, lower, checks, Codeword, apart_at}
use Rattle.code.specs.Lanes.{rooted}
use Rattle.code.specs.Theorems.{ChecksCodeword}
use Rattle.code.proofs.Division.{zeros_get, length_plus, plus_get, length_generator, generator_get, scaled_get}
use Rattle.code.proofs.Evaluate.{eval, eval_append, eval_split, eval_zeros, eval_plus, eval_times}
use Rattle.code.proofs.Bridge.{Bytes, word, bytes_rest, value_lt, value_sum}
use Rattle.code.proofs.Places.{apart_places, length_apart, apart_agree}
use Rattle.code.proofs.Distance.{elt_same}

-- ---- a step of the argument in any field

module _ (K : Field) where
  open K use {F, ◌⊕◌, ◌⊗◌, 𝟘, 𝟙}

  same_twice : (c : F) → c ⊕ c ≡ 𝟘
  same_twice = K.⊕_self

  nothing_left : (v c p : F) → v ⊕ c ⊗ 𝟘 ⊗ p ≡ v
  nothing_left v c p = simp ring

  fresh : (x c : F) → c ≡ 𝟘 ⊗ x ⊕ c
  fresh x c = simp ring

  one_more_root : (v x a : F) → v ⊗ x ⊕ 𝟘 ⊕ a ⊗ v ⊗ 𝟙 ≡ v ⊗ (x ⊕ a)
  one_more_root v x a = simp ring

  times_zero : (a x : F) → 𝟘 ⊗ x ⊕ 𝟘 ≡ a ⊗ 𝟘
  times_zero a x = simp ring

  root_met : (v a : F) → v ⊗ (a ⊕ a) ≡ 𝟘
  root_met v a = simp ring

  root_kept : (x a : F) → 𝟘 ⊗ (x ⊕ a) ≡ 𝟘
  root_kept x a = simp ring

  first_one : (x : F) → 𝟘 ⊗ x ⊕ 𝟙 ≡ 𝟙
  first_one x = simp ring

  after_zero : (h : F) → h ⊕ 𝟘 ≡ h
  after_zero h = simp ring

open gf256 use {◌⊕◌, ◌⊗◌, 𝟘, 𝟙}

-- the value of a list at x
abbrev pub at : Byte → Byte → List ℕ → Byte
at = eval gf256 elt

value_after_lem : (x y : ℕ) (w : List ℕ) → y < 256 → Bytes w → elt (value_after x y w) ≡ at (elt x) (elt y) w
unfolding value_after eval
value_after_lem x y [] h b = refl
value_after_lem x y (c ∷ cs) h b =
    value_after_lem x (bit_xor (mul_n y x) c) cs (xor_lt 8 (mul_n y x) c (mul_lt y x h) (b 0 (omega arith))) (bytes_rest c cs b)
    ∙ ap (λ a. at (elt x) a cs) (elt_add (mul_n y x) c ∙ ap (λ a. a ⊕ elt c) (elt_mul y x h))

pub value_at : (x : ℕ) (w : List ℕ) → Bytes w → elt (value x w) ≡ at (elt x) 𝟘 w
unfolding value
value_at x w b = value_after_lem x 0 w (lit< tt) b

-- ---- lists of bytes

-- each entry is a byte, also past the end
abbrev pub AllBytes : List ℕ → Type 0
AllBytes l = (k : ℕ) → get_or l k 0 < 256

pub all_bytes : (l : List ℕ) → Bytes l → AllBytes l
all_bytes l b k = by_cases (dec_lt k (length l)) (b k) (λ h. rw (get_or-eq_default l 0 {n = k} (omega arith)) (lit< tt))

plus_bytes : (l m : List ℕ) → AllBytes l → AllBytes m → AllBytes (plus l m)
plus_bytes l m bl bm =
    all_bytes (plus l m) (λ k h. rw (plus_get l m k (rw length_plus at h)) (xor_lt 8 (get_or l k 0) (get_or m k 0) (bl k) (bm k)))

times_bytes : (c : ℕ) (l : List ℕ) → c < 256 → AllBytes (map (mul_n c) l)
times_bytes c l h k = rw (scaled_get c l k) (mul_lt c (get_or l k 0) h)

append_bytes : (l m : List ℕ) → AllBytes l → AllBytes m → AllBytes (l ++ m)
append_bytes [] m bl bm k = bm k
append_bytes (c ∷ l) m bl bm zero = bl 0
append_bytes (c ∷ l) m bl bm (suc k) = append_bytes l m (λ j. bl (suc j)) bm k

rooted_lt : (g : List ℕ) (a k : ℕ) → a < 256 → AllBytes g → rooted g a k < 256
unfolding rooted
rooted_lt g a zero h b = b 0
rooted_lt g a (suc k) h b = xor_lt 8 (get_or g (suc k) 0) (mul_n a (get_or g k 0)) (b (suc k)) (mul_lt a (get_or g k 0) h)

pub generator_bytes : (n : ℕ) → AllBytes (generator n)
unfolding generator
generator_bytes zero zero = lit< tt
generator_bytes zero (suc k) = lit< tt
generator_bytes (suc n) k = rw (generator_get n k) (rooted_lt (generator n) (pow_n n) k (pow_lt n) (generator_bytes n))

divided_bytes : (low : List ℕ) (k : ℕ) (cs : List ℕ) → AllBytes cs → AllBytes (divided low k cs)
unfolding divided
divided_bytes low zero cs b = b
divided_bytes low (suc k) [] b = b
divided_bytes low (suc k) (c ∷ cs) b = divided_bytes low k (plus cs (map (mul_n c) low)) (plus_bytes cs (map (mul_n c) low) (λ j. b (suc j)) (times_bytes c low (b 0)))

-- ---- the generator: its first coefficient is 1, and each 2^i with i < n is a root

is_monic : (l m : List ℕ) → l ≡ 1 ∷ m → l ≡ 1 ∷ lower l
unfolding lower
is_monic l m e = e ∙ ap (λ (z : List ℕ). 1 ∷ lower z) (sym e)

pub generator_monic : (n : ℕ) → generator n ≡ 1 ∷ lower (generator n)
unfolding generator plus lower
generator_monic zero = refl
generator_monic (suc n) =
    is_monic (generator (suc n)) (plus (lower (generator n) ++ (0 ∷ [])) (map (mul_n (pow_n n)) (1 ∷ lower (generator n))))
    (ap (λ (g : List ℕ). plus (g ++ (0 ∷ [])) (0 ∷ map (mul_n (pow_n n)) g)) (generator_monic n))

generator_more : (x : Byte) (n : ℕ) → at x 𝟘 (generator (suc n)) ≡ at x 𝟘 (generator n) ⊗ (x ⊕ elt (pow_n n))
unfolding generator eval pow
generator_more x n =
    ap (λ a. at x a (generator (suc n))) (sym (same_twice gf256 𝟘))
    ∙ eval_plus gf256 elt elt_add x 𝟘 𝟘 (generator n ++ (0 ∷ [])) (0 ∷ map (mul_n (pow_n n)) (generator n)) 0 lengths
    ∙ ap₂ (λ a b. a ⊕ b ⊗ 𝟙)
    (eval_append gf256 elt x 𝟘 (generator n) (0 ∷ []))
    (ap (λ a. at x a (map (mul_n (pow_n n)) (generator n))) (times_zero gf256 (elt (pow_n n)) x)
    ∙ eval_times gf256 elt (pow_n n) (λ b. elt_mul (pow_n n) b (pow_lt n)) x 𝟘 (generator n))
    ∙ one_more_root gf256 (at x 𝟘 (generator n)) x (elt (pow_n n))
  where
    lengths : length (generator n ++ (0 ∷ [])) ≡ length (0 ∷ map (mul_n (pow_n n)) (generator n)) + 0
    lengths = simp (length-append, length-map) (omega arith)

pub generator_root : (n i : ℕ) → i < n → at (elt (pow_n i)) 𝟘 (generator n) ≡ 𝟘
generator_root zero i h = absurd (omega arith)
generator_root (suc n) i h =
    generator_more (elt (pow_n i)) n
    ∙ ⊎_elim (λ (e : i ≡ n). ap (λ (j : ℕ). at (elt (pow_n i)) 𝟘 (generator n) ⊗ (elt (pow_n j) ⊕ elt (pow_n n))) e ∙ root_met gf256 (at (elt (pow_n i)) 𝟘 (generator n)) (elt (pow_n n)))
    (λ l. ap (λ a. a ⊗ (elt (pow_n i) ⊕ elt (pow_n n))) (generator_root n i l) ∙ root_kept gf256 (elt (pow_n i)) (elt (pow_n n)))
    (eq-or-lt_of_le (le_of_suc-le-suc h))

lower_root : (n i : ℕ) → i < n → at (elt (pow_n i)) 𝟙 (lower (generator n)) ≡ 𝟘
unfolding eval
lower_root n i h =
    ap (λ a. at (elt (pow_n i)) a (lower (generator n))) (sym (first_one gf256 (elt (pow_n i))))
    ∙ ap (at (elt (pow_n i)) 𝟘) (sym (generator_monic n)) ∙ generator_root n i h

length_lower : (n : ℕ) → length (lower (generator n)) ≡ n
length_lower n = let h : length (generator n) ≡ suc (length (lower (generator n))) = ap length (generator_monic n) in omega (arith, length_generator n)

-- ---- the division

module _ (low : List ℕ) where
  length_divided : (k : ℕ) (cs : List ℕ) → k ≤ length cs → length (divided low k cs) + k ≡ length cs
  unfolding divided
  length_divided zero cs h = add-zero (length cs)
  length_divided (suc k) [] h = absurd (omega arith)
  length_divided (suc k) (c ∷ cs) h =
      let l : length (plus cs (map (mul_n c) low)) ≡ length cs = length_plus cs (map (mul_n c) low) in
      omega (arith, length_divided k (plus cs (map (mul_n c) low)) (omega arith))

  divided_at : (x : Byte) → at x 𝟙 low ≡ 𝟘 → (k : ℕ) (cs : List ℕ) → AllBytes cs → k + length low ≤ length cs → at x 𝟘 (divided low k cs) ≡ at x 𝟘 cs
  unfolding divided eval
  divided_at x r zero cs b h = refl
  divided_at x r (suc k) [] b h = absurd (omega arith)
  divided_at x r (suc k) (c ∷ cs) b h =
      let l : length (plus cs (map (mul_n c) low)) ≡ length cs = length_plus cs (map (mul_n c) low) in
      divided_at x r k (plus cs (map (mul_n c) low)) (plus_bytes cs (map (mul_n c) low) (λ j. b (suc j)) (times_bytes c low (b 0))) (omega arith)
      ∙ ap (λ a. at x a (plus cs (map (mul_n c) low))) (sym (same_twice gf256 (elt c)))
      ∙ eval_plus gf256 elt elt_add x (elt c) (elt c) cs (map (mul_n c) low) (length cs - length low) (omega (arith, length-map low (mul_n c)))
      ∙ ap (λ a. at x (elt c) cs ⊕ a ⊗ pow gf256 x (length cs - length low))
      (ap (λ a. at x a (map (mul_n c) low)) (sym (gf256.⊗_one (elt c))) ∙ eval_times gf256 elt c (λ a. elt_mul c a (b 0)) x 𝟙 low ∙ ap (λ a. elt c ⊗ a) r)
      ∙ nothing_left gf256 (at x (elt c) cs) (elt c) (pow gf256 x (length cs - length low))
      ∙ ap (λ a. at x a cs) (fresh gf256 x (elt c))

-- ---- the checks

apart_le : (a b : List ℕ) → apart_at a b ≤ length a
unfolding apart_at
apart_le a b = tally_le (length a) (λ j. not (eqb (get_or a j 0) (get_or b j 0)))

data_bytes : (held : List ℕ) → AtMost 255 held → Bytes held
data_bytes held b j h = omega (arith, b j h)

pub checks_length : (n : ℕ) (held : List ℕ) → length (checks n held) ≡ n
unfolding checks
checks_length n held =
    let whole : length (held ++ replicate n 0) ≡ length held + n = simp (length-append, length-replicate) in
    omega (arith, length_divided (lower (generator n)) (length held) (held ++ replicate n 0) (omega arith))

pub checks_bytes : (n : ℕ) (held : List ℕ) → Bytes held → AllBytes (checks n held)
unfolding checks
checks_bytes n held b =
    divided_bytes (lower (generator n)) (length held) (held ++ replicate n 0) (append_bytes held (replicate n 0) (all_bytes held b) (λ k. rw (zeros_get n k) (lit< tt)))

-- the value of data and what follows it
followed : (x : Byte) (held r : List ℕ) → at x 𝟘 (held ++ r) ≡ at x 𝟘 held ⊗ pow gf256 x (length r) ⊕ at x 𝟘 r
followed x held r =
    eval_append gf256 elt x 𝟘 held r ∙ ap (λ a. at x a r) (sym (after_zero gf256 (at x 𝟘 held))) ∙ eval_split gf256 elt x (at x 𝟘 held) 𝟘 r

checks_at : (n : ℕ) (held : List ℕ) → Bytes held → (i : ℕ) → i < n → at (elt (pow_n i)) 𝟘 (checks n held) ≡ at (elt (pow_n i)) 𝟘 held ⊗ pow gf256 (elt (pow_n i)) n
unfolding checks
checks_at n held b i h =
    let x : Byte = elt (pow_n i) in
    let z : List ℕ = replicate n 0 in
    divided_at (lower (generator n)) x (lower_root n i h) (length held) (held ++ replicate n 0)
    (append_bytes held (replicate n 0) (all_bytes held b) (λ k. rw (zeros_get n k) (lit< tt)))
    (simp (length-append, length-replicate, length_lower) (le_refl (length held + n)))
    ∙ followed x held (replicate n 0)
    ∙ ap (λ a. at x 𝟘 held ⊗ pow gf256 x (length z) ⊕ a) (eval_zeros gf256 elt refl x n)
    ∙ after_zero gf256 (at x 𝟘 held ⊗ pow gf256 x (length z))
    ∙ ap (λ (m : ℕ). at x 𝟘 held ⊗ pow gf256 x m) (length-replicate n 0)

-- a word of n codewords behind the data: the whole is 0 at 2^i just where the word's value there is that of the checks
behind : (n : ℕ) (held r : List ℕ) → Bytes held → length r ≡ n → (i : ℕ) → i < n
    → at (elt (pow_n i)) 𝟘 (held ++ r) ≡ at (elt (pow_n i)) 𝟘 (checks n held) ⊕ at (elt (pow_n i)) 𝟘 r
behind n held r b e i h =
    followed (elt (pow_n i)) held r
    ∙ ap (λ (m : ℕ). at (elt (pow_n i)) 𝟘 held ⊗ pow gf256 (elt (pow_n i)) m ⊕ at (elt (pow_n i)) 𝟘 r) e
    ∙ ap (λ a. a ⊕ at (elt (pow_n i)) 𝟘 r) (sym (checks_at n held b i h))

pub bytes_append : (l m : List ℕ) → Bytes l → Bytes m → Bytes (l ++ m)
bytes_append l m bl bm j h = append_bytes l m (all_bytes l bl) (all_bytes m bm) j

with_checks_lem : (n : ℕ) (held : List ℕ) → Bytes held → Codeword n (held ++ checks n held)
with_checks_lem n held b =
    record { bytes = whole; zeros = λ i h. elt_same (value (pow_n i) (held ++ checks n held)) 0 (value_lt (pow_n i) (held ++ checks n held) whole) (lit< tt) (zero_at i h) }
  where
    whole : Bytes (held ++ checks n held)
    whole = bytes_append held (checks n held) b (λ j h. checks_bytes n held b j)

    zero_at : (i : ℕ) → i < n → elt (value (pow_n i) (held ++ checks n held)) ≡ 𝟘
    zero_at i h =
        value_at (pow_n i) (held ++ checks n held) whole
        ∙ behind n held (checks n held) b (checks_length n held) i h
        ∙ same_twice gf256 (at (elt (pow_n i)) 𝟘 (checks n held))

rest_bytes : (l m : List ℕ) → Bytes (l ++ m) → Bytes m
rest_bytes l m b j h = rw (get_or-append-add l m j 0) at (b (length l + j) (rw length-append (omega arith)))

no_other : (n : ℕ) (held r : List ℕ) → n ≤ 255 → Bytes held → length r ≡ n → Codeword n (held ++ r) → r ≡ checks n held
no_other n held r m b e k =
    ext_get_or 0 r (checks n held) (e ∙ sym (checks_length n held))
    (λ j l.
    elt_same (get_or r j 0) (get_or (checks n held) j 0) (br j l) (checks_bytes n held b j)
    (theory.same gf256 (length r) (locators (length r)) (locators_apart (length r) (omega arith)) (apart_places r (checks n held)) (apart_agree r (checks n held))
    (λ i h. sums i (omega (arith, length_apart r (checks n held), apart_most))) j l))
  where
    br : Bytes r
    br = rest_bytes held r k.bytes

    bc : Bytes (checks n held)
    bc j h = checks_bytes n held b j

    apart_most : apart_at r (checks n held) ≤ length r
    apart_most = apart_le r (checks n held)

    values : (i : ℕ) → i < n → at (elt (pow_n i)) 𝟘 (checks n held) ≡ at (elt (pow_n i)) 𝟘 r
    values i h =
        ⊕_equal gf256 (at (elt (pow_n i)) 𝟘 (checks n held)) (at (elt (pow_n i)) 𝟘 r)
        (sym (behind n held r b e i h) ∙ sym (value_at (pow_n i) (held ++ r) k.bytes) ∙ ap elt (k.zeros i h))

    sums : (i : ℕ) → i < n → psum gf256 (length r) (locators (length r)) (word r) i ≡ psum gf256 (length r) (locators (length r)) (word (checks n held)) i
    sums i h =
        sym (value_sum i r br) ∙ value_at (pow_n i) r br ∙ sym (values i h) ∙ sym (value_at (pow_n i) (checks n held) bc) ∙ value_sum i (checks n held) bc
        ∙ ap (λ (N : ℕ). psum gf256 N (locators N) (word (checks n held)) i) (checks_length n held ∙ sym e)

-- data followed by its n checks is a codeword, and no other checks make it one
pub checks_codeword : ChecksCodeword
checks_codeword n held m b =
    (checks_length n held, with_checks_lem n held (data_bytes held b), λ r e k. no_other n held r m (data_bytes held b) e k)
