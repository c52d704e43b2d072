-- "The code's distance, n + 1" is reached: zeros before the generator are a codeword that differs from the zero word in n + 1 places. It has no more than
-- n + 1 coefficients, and were one of them 0, the two would differ in n places and be equal.
use mathlib.Core.Path.{◌≡◌, refl, sym, ap, ◌∙◌}
use mathlib.Core.Bool.{Bool, false, not}
use mathlib.Core.List.{List, ◌++◌}
use Prim.Native.Nat.{ℕ, zero, suc, ◌+◌, ◌-◌, ◌≤◌, ◌<◌}
use native.Mathlib.Nat.{add-zero, add-suc}
use native.Mathlib.Omega.{arith}
use lib.Dec.{lit<, eqb}
use lib.ListN.{length, get_or, replicate, length-append, length-replicate, get_or-append}
use lib.Seq.{get_or-append-add}
use Rattle.basics.specs.Sums.{sum, tally}
use Rattle.basics.proofs.Sums.{one_le}
use Rattle.field.specs.Field.{pow_n}
use Rattle.field.proofs.Byte.{elt}
use Rattle.theory.proofs.Gf.{gf256}
use Rattle.code.specs.Code.{value, generator, Codeword, apart_at}
use Rattle.code.specs.Theorems.{DistanceReached}
use Rattle.code.proofs.Division.{zeros_get, length_generator}
use Rattle.code.proofs.Evaluate.{eval_append, eval_zeros}
use Rattle.code.proofs.Bridge.{Bytes, value_lt}
use Rattle.code.proofs.Distance.{elt_same, distance}
use Rattle.code.proofs.Codewords.{at, value_at, bytes_append, generator_bytes, generator_monic, generator_root}

-- a word of bytes whose values are 0 in the field is a codeword
vanishes : (n : ℕ) (c : List ℕ) → Bytes c → ((i : ℕ) → i < n → at (elt (pow_n i)) (elt 0) c ≡ elt 0) → Codeword n c
vanishes n c b z =
    record { bytes = b; zeros = λ i h. elt_same (value (pow_n i) c) 0 (value_lt (pow_n i) c b) (lit< tt) (value_at (pow_n i) c b ∙ z i h) }

zeros_bytes : (N : ℕ) → Bytes (replicate N 0)
zeros_bytes N j h = rw (zeros_get N j) (lit< tt)

pub zero_word : (n N : ℕ) → Codeword n (replicate N 0)
zero_word n N = vanishes n (replicate N 0) (zeros_bytes N) (λ i h. eval_zeros gf256 elt refl (elt (pow_n i)) N)

pub generator_word : (n k : ℕ) → Codeword n (replicate k 0 ++ generator n)
generator_word n k =
    vanishes n (replicate k 0 ++ generator n) (bytes_append (replicate k 0) (generator n) (zeros_bytes k) (λ j h. generator_bytes n j))
    (λ i h.
    eval_append gf256 elt (elt (pow_n i)) (elt 0) (replicate k 0) (generator n)
    ∙ ap (λ a. at (elt (pow_n i)) a (generator n)) (eval_zeros gf256 elt refl (elt (pow_n i)) k)
    ∙ generator_root n i h)

-- a tally of what passes nowhere in the first m
tally_none : (m : ℕ) (test : ℕ → Bool) → ((j : ℕ) → j < m → test j ≡ false) → tally m test ≡ 0
unfolding tally sum
tally_none zero test h = refl
tally_none (suc m) test h = rw (h m (omega arith), tally_none m test (λ j l. h j (omega arith)))

tally_last : (m k : ℕ) (test : ℕ → Bool) → ((j : ℕ) → j < m → test j ≡ false) → tally (m + k) test ≤ k
unfolding tally sum
tally_last m zero test h = rw (add-zero, tally_none m test h) (omega arith)
tally_last m (suc k) test h = rw add-suc (omega (arith, tally_last m k test h, one_le (test (m + k))))

module _ (n k : ℕ) where
  reached : List ℕ
  reached = replicate k 0 ++ generator n

  nothing : List ℕ
  nothing = replicate (k + suc n) 0

  length_reached : length reached ≡ k + suc n
  unfolding reached
  length_reached = simp (length-append, length-replicate, length_generator)

  first_is_one : get_or reached k 0 ≡ 1
  unfolding reached
  first_is_one =
      ap (λ (j : ℕ). get_or (replicate k 0 ++ generator n) j 0) (sym (add-zero k) ∙ ap (λ (j : ℕ). j + 0) (sym (length-replicate k 0)))
      ∙ get_or-append-add (replicate k 0) (generator n) 0 0
      ∙ ap (λ (g : List ℕ). get_or g 0 0) (generator_monic n)

  before_equal : (j : ℕ) → j < k → not (eqb (get_or reached j 0) (get_or nothing j 0)) ≡ false
  unfolding reached nothing
  before_equal j h =
      rw (get_or-append (replicate k 0) (generator n) 0 j (rw length-replicate h), zeros_get k j, zeros_get (k + suc n) j)

  at_most : apart_at reached nothing ≤ suc n
  unfolding apart_at
  at_most = rw length_reached (tally_last k (suc n) (λ j. not (eqb (get_or reached j 0) (get_or nothing j 0))) before_equal)

  not_fewer : k + suc n ≤ 255 → ¬ (apart_at reached nothing ≤ n)
  unfolding reached nothing
  not_fewer m near =
      let same : reached ≡ nothing = distance n reached nothing (length_reached ∙ sym (length-replicate (k + suc n) 0)) (rw length_reached m) (generator_word n k) (zero_word n (k + suc n)) near in
      let clash : ◌≡◌ {A = ℕ} 1 0 = sym first_is_one ∙ ap (λ (l : List ℕ). get_or l k 0) same ∙ zeros_get (k + suc n) k in
      omega arith

  exactly : k + suc n ≤ 255 → apart_at reached nothing ≡ suc n
  exactly m = let l : ¬ (apart_at reached nothing ≤ n) = not_fewer m in omega (arith, at_most)

-- some two codewords of N differ in n + 1 places
pub distance_reached : DistanceReached
unfolding reached nothing
distance_reached n N h m =
    let k : ℕ = N - suc n in
    let e : k + suc n ≡ N = omega arith in
    (reached n k, nothing n k, length_reached n k ∙ e, length-replicate (k + suc n) 0 ∙ e, generator_word n k, zero_word n (k + suc n), exactly n k (rw e m))
