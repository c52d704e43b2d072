-- The error locator, and what a recurrence says of the locators of a word.
use mathlib.Core.Path.{◌≡◌, refl, sym, ap, ◌∙◌, fun_ext}
use mathlib.Core.Logic.{◌⊎◌, inl, inr, ⊎_elim}
use mathlib.Core.List.Memᴰ
use mathlib.Core.List.{List, [], ◌∷◌}
use Prim.Native.Nat.{ℕ, suc, ◌<◌}
use native.Mathlib.Nat.{suc-add}
use native.Mathlib.Numerals.{add-one}
use native.Mathlib.Omega.{arith}
use lib.ListN.{length}
use Rattle.theory.proofs.Field.{Field}
use Rattle.theory.proofs.Places.{Apart, Within, psum, erase}
use Rattle.theory.proofs.Run.{act, eval, Monic, one, shift}
use Rattle.theory.proofs.Algebra.{ring, zero-⊗, sum_zero, sum-⊕, sum-⊗, ⊗_sum, sum_swap, pow_+, zero_product}
use Rattle.theory.proofs.Distance.{psum_erase, within_erase, distance}
use Rattle.theory.proofs.Massey.{act-⊕, act_shift, act_zero, shift_below, one_below}

module _ (K : Field) where
  open K use {F, ◌⊕◌, ◌⊗◌, 𝟘}

  act_erase : (n : ℕ) (A s : ℕ → F) (x : F) (i : ℕ) → act K n A (erase K x s) i ≡ act K n A s (suc i) ⊕ x ⊗ act K n A s i
  unfolding act erase
  act_erase n A s x i = rw (act, ← sum-⊗ K n x, ← sum-⊕ K) (simp (ring, suc-add))

  -- the sequence satisfies a recurrence of degree t
  pub record Located (n t : ℕ) (s : ℕ → F) : Type 0 where
    pub poly : ℕ → F
    pub monic : Monic K t poly
    pub zeros : (i : ℕ) → act K n poly s i ≡ 𝟘

module _ (K : Field) (N : ℕ) (X : ℕ → K.F) where
  open K use {F, ◌⊕◌, ◌⊗◌, 𝟘, 𝟙}

  -- the power sums of a word with values at t places do: its polynomial has their locators for roots
  pub locator : (n : ℕ) (T : List ℕ) (e : ℕ → F) → Within K N T e → length T < n → Located K n (length T) (psum K N X e)
  unfolding one psum shift
  locator n [] e w l = record {
    poly = one K;
    monic = record { lead = refl; below = one_below K };
    zeros = λ i. act_zero K n _ i (one_below K) (λ k q. sum_zero K N (λ j m. ⊎_elim (λ z. rw z (zero-⊗ K _)) (λ p. absurd (Memᴰ.not-nil p)) (w j m)));
  }
  locator n (u ∷ T) e w l = longer (locator n T (λ j. e j ⊗ (X j ⊕ X u)) (within_erase K N X u T w) (omega arith))
    where
      longer : Located K n (length T) (psum K N X (λ j. e j ⊗ (X j ⊕ X u))) → Located K n (suc (length T)) (psum K N X e)
      longer c = record {
        poly = λ k. shift K 1 c.poly k ⊕ X u ⊗ c.poly k;
        monic = record {
          lead = rw (c.monic.lead, c.monic.below (suc (length T)) (omega arith)) (simp ring);
          below = λ k q. rw (shift_below K 1 c.monic.below k (omega arith), c.monic.below k (omega arith)) (simp ring);
        };
        zeros =
            λ i.
            act-⊕ K n (shift K 1 c.poly) c.poly (psum K N X e) (X u) i
            ∙ ap (λ x. x ⊕ X u ⊗ act K n c.poly (psum K N X e) i) (act_shift K n 1 _ i (omega arith) c.monic.below ∙ ap (act K n c.poly (psum K N X e)) (add-one i))
            ∙ sym (act_erase K n c.poly (psum K N X e) (X u) i)
            ∙ ap (λ s. act K n c.poly s i) (fun_ext (λ h. sym (psum_erase K N X (X u) e h)))
            ∙ c.zeros i;
      }

  -- a polynomial multiplies the value at each place by what it is at the place's locator
  pub act_psum : (n : ℕ) (A e : ℕ → F) (i : ℕ) → act K n A (psum K N X e) i ≡ psum K N X (λ j. e j ⊗ eval K n A (X j)) i
  unfolding act psum eval
  act_psum n A e i = simp (act, psum, ← sum-⊗ K) (sum_swap K n N _ ∙ simp (eval, ← ⊗_sum K, pow_+ K, ring))

  -- a polynomial that is 0 on as many windows as the word has places that may differ from 0 has their locators for roots
  pub locator_root :
      (apart : Apart K N X) (n : ℕ) (A e : ℕ → F) (T : List ℕ) →
      Within K N T e → ((i : ℕ) → i < length T → act K n A (psum K N X e) i ≡ 𝟘) → (j : ℕ) → j < N → (e j ≡ 𝟘) ⊎ (eval K n A (X j) ≡ 𝟘)
  locator_root apart n A e T w z j l =
      zero_product K _ _ (distance K N X apart T (λ k. e k ⊗ eval K n A (X k)) (λ k m. ⊎_elim (λ p. inl (rw p (zero-⊗ K _))) inr (w k m)) (λ i m. sym (act_psum n A e i) ∙ z i m) j l)
