-- The places that pass a test: which they are, how many, and that they are roots where each that passes is one.
use mathlib.Core.Path.{◌≡◌, refl, sym, ap, ◌∙◌}
use mathlib.Core.Logic.{⊎_elim}
use mathlib.Core.Bool.{Bool, true, false, not, cond, ◌||◌, ◌&&◌}
use mathlib.Core.List.Memᴰ
use mathlib.Core.List.{List, [], ◌∷◌, Memᴰ}
use Prim.Native.Nat.{ℕ, zero, suc, ◌+◌, ◌≤◌, ◌<◌}
use native.Mathlib.Nat.{not-suc-le-zero, eq-or-lt_of_le, le_of_suc-le-suc}
use native.Mathlib.Omega.{arith}
use lib.ListN.{length, get_or, take}
use Rattle.basics.specs.Sums.{sum, one, tally}
use Rattle.theory.proofs.Field.{Field}
use Rattle.theory.proofs.Run.{eval, Roots}
use Rattle.corrector.specs.Places.{picked}

module _ (test : ℕ → Bool) where
  pub picked_has : (n j : ℕ) → j < n → test j ≡ true → Memᴰ j (picked test n)
  unfolding picked
  picked_has zero j h e = absurd (not-suc-le-zero h)
  picked_has (suc n) j h e = go (test n) refl (λ l. picked_has n j l e)
    where
      go : (b : Bool) → test n ≡ b → (j < n → Memᴰ j (picked test n)) → Memᴰ j (cond b (n ∷ picked test n) (picked test n))
      go true t below = ⊎_elim (λ (p : j ≡ n). Memᴰ.head p) (λ l. Memᴰ.tail (below l)) (eq-or-lt_of_le (le_of_suc-le-suc h))
      go false t below = ⊎_elim (λ (p : j ≡ n). absurd (let z : true ≡ false = sym e ∙ ap test p ∙ t in let z' : ◌≡◌ {A = ℕ} 1 0 = ap one z in omega arith)) below (eq-or-lt_of_le (le_of_suc-le-suc h))

  pub picked_is : (n j : ℕ) → Memᴰ j (picked test n) → (j < n) × (test j ≡ true)
  unfolding picked
  picked_is zero j m = absurd (Memᴰ.not-nil m)
  picked_is (suc n) j m = go (test n) refl m (λ q. let r = picked_is n j q in (omega (arith, r.0), r.1))
    where
      go : (b : Bool) → test n ≡ b → Memᴰ j (cond b (n ∷ picked test n) (picked test n)) → (Memᴰ j (picked test n) → (j < suc n) × (test j ≡ true)) → (j < suc n) × (test j ≡ true)
      go true t q later = ⊎_elim (λ (p : j ≡ n). (omega arith, ap test p ∙ t)) later (Memᴰ.cases_cons q)
      go false t q later = later q

  pub picked_length : (n : ℕ) → length (picked test n) ≡ tally n test
  unfolding picked tally sum
  picked_length zero = refl
  picked_length (suc n) = go (test n) ∙ ap (λ (m : ℕ). m + one (test n)) (picked_length n)
    where
      go : (b : Bool) → length (cond b (n ∷ picked test n) (picked test n)) ≡ length (picked test n) + one b
      go true = omega arith
      go false = omega arith

  module _ (K : Field) (n : ℕ) (X A : ℕ → K.F) (N : ℕ) (zeros : (j : ℕ) → j < N → test j ≡ true → eval K n A (X j) ≡ K.𝟘) where
    wider : (b c : ℕ) → b ≤ c → (R : List ℕ) → Roots K n X A b R → Roots K n X A c R
    wider b c l [] r = tt
    wider b c l (u ∷ R) r = (omega (arith, r.0), r.1, r.2)

    pub picked_roots : (b : ℕ) → b ≤ N → Roots K n X A b (picked test b)
    unfolding picked
    picked_roots zero l = tt
    picked_roots (suc b) l = go (test b) refl (picked_roots b (omega arith))
      where
        go : (t : Bool) → test b ≡ t → Roots K n X A b (picked test b) → Roots K n X A (suc b) (cond t (b ∷ picked test b) (picked test b))
        go true e r = (omega arith, zeros b (omega arith) e, r)
        go false e r = wider b (suc b) (omega arith) (picked test b) r

-- those that pass one of two tests
pub picked_either : (a b : ℕ → Bool) (n : ℕ) → length (picked (λ j. a j || b j) n) ≡ length (picked a n) + length (picked (λ j. not (a j) && b j) n)
unfolding picked
picked_either a b zero = refl
picked_either a b (suc n) = go (a n) (b n) (picked_either a b n)
  where
    go : (s t : Bool) → length (picked (λ j. a j || b j) n) ≡ length (picked a n) + length (picked (λ j. not (a j) && b j) n) →
        length (cond (s || t) (n ∷ picked (λ j. a j || b j) n) (picked (λ j. a j || b j) n))
        ≡ length (cond s (n ∷ picked a n) (picked a n)) + length (cond (not s && t) (n ∷ picked (λ j. not (a j) && b j) n) (picked (λ j. not (a j) && b j) n))
    go true t e = omega arith
    go false true e = omega arith
    go false false e = e

-- an entry of the front of a list
pub taken_at : (count : ℕ) (l : List ℕ) (j : ℕ) → Memᴰ j (take count l) → (k : ℕ) × (k < count) × (get_or l k 0 ≡ j)
taken_at zero l j m = absurd (Memᴰ.not-nil m)
taken_at (suc count) [] j m = absurd (Memᴰ.not-nil m)
taken_at (suc count) (x ∷ l) j m =
    ⊎_elim (λ (p : j ≡ x). (0, omega arith, sym p)) (λ q. let r = taken_at count l j q in (suc r.0, omega (arith, r.1), r.2)) (Memᴰ.cases_cons m)

pub taken_has : (count : ℕ) (l : List ℕ) (k : ℕ) → k < count → k < length l → Memᴰ (get_or l k 0) (take count l)
taken_has zero l k h m = absurd (omega arith)
taken_has (suc count) [] k h m = absurd (not-suc-le-zero m)
taken_has (suc count) (x ∷ l) zero h m = Memᴰ.head refl
taken_has (suc count) (x ∷ l) (suc k) h m = Memᴰ.tail (taken_has count l k (omega arith) (omega arith))
