-- A word whose first power sums vanish, as many as it has places that may differ from 0, vanishes.
use mathlib.Core.Path.{◌≡◌, sym, ◌∙◌}
use mathlib.Core.Logic.{◌≢◌, inl, inr, ⊎_elim, by_cases}
use mathlib.Core.List.Memᴰ
use mathlib.Core.List.{List, [], ◌∷◌, ◌++◌, Memᴰ}
use Prim.Native.Nat.{ℕ, suc, ◌+◌, ◌≤◌, ◌<◌}
use native.Mathlib.Decide.{ℕ_discrete, dec_lt}
use native.Mathlib.Omega.{arith}
use lib.ListN.{length, length-append}
use Rattle.theory.proofs.Field.{Field}
use Rattle.theory.proofs.Sum.{pow}
use Rattle.theory.proofs.Places.{Apart, Agree, Within, psum, erase}
use Rattle.theory.proofs.Algebra.{ring, ⊕_self, zero-⊗, ⊗_one, ⊕_equal, zero_product, sum-⊕, sum-⊗, sum_single}

module _ (K : Field) (N : ℕ) (X : ℕ → K.F) where
  open K use {F, ◌⊕◌, ◌⊗◌, 𝟘, 𝟙}

  pub psum_erase : (x : F) (e : ℕ → F) (i : ℕ) → psum K N X (λ j. e j ⊗ (X j ⊕ x)) i ≡ erase K x (psum K N X e) i
  unfolding psum erase pow
  psum_erase x e i = rw (psum, erase, ← sum-⊗ K N x, ← sum-⊕ K) (simp ring)

  pub within_erase : (u : ℕ) (U : List ℕ) {e : ℕ → F} → Within K N (u ∷ U) e → Within K N U (λ j. e j ⊗ (X j ⊕ X u))
  within_erase u U {e} w j l = ⊎_elim (λ z. inl (rw z (simp ring))) (λ m. ⊎_elim (λ p. inl (rw p (simp ring))) inr (Memᴰ.cases_cons m)) (w j l)

  within_outside : (u : ℕ) (U : List ℕ) {e : ℕ → F} → ¬ (u < N) → Within K N (u ∷ U) e → Within K N U e
  within_outside u U o w j l = ⊎_elim inl (λ m. ⊎_elim (λ p. absurd (o (rw p at l))) inr (Memᴰ.cases_cons m)) (w j l)

  pub psum-⊕ : (a b : ℕ → F) (i : ℕ) → psum K N X (λ j. a j ⊕ b j) i ≡ psum K N X a i ⊕ psum K N X b i
  unfolding psum
  psum-⊕ a b i = rw (psum, ← sum-⊕ K) (simp ring)

  module _ (apart : Apart K N X) where
    -- erasing one place leaves nothing: the word was that place alone, and its sum is its value
    alone : (u : ℕ) (e : ℕ → F) → u < N → ((j : ℕ) → j < N → e j ⊗ (X j ⊕ X u) ≡ 𝟘) → psum K N X e 0 ≡ 𝟘 → (j : ℕ) → j < N → e j ≡ 𝟘
    unfolding psum pow
    alone u e m z p j l = by_cases (ℕ_discrete j u) (λ q. rw q (rw (⊗_one K) at (sym (sum_single K N u m (λ k n d. rw (others k n d) (zero-⊗ K 𝟙))) ∙ p))) (others j l)
      where
        others : (k : ℕ) → k < N → k ≢ u → e k ≡ 𝟘
        others k n d = ⊎_elim (λ a. a) (λ q. absurd (d (apart k u n m (⊕_equal K _ _ q)))) (zero_product K _ _ (z k n))

    pub distance : (U : List ℕ) (e : ℕ → F) → Within K N U e → ((i : ℕ) → i < length U → psum K N X e i ≡ 𝟘) → (j : ℕ) → j < N → e j ≡ 𝟘
    unfolding erase
    distance [] e w p = λ j l. ⊎_elim (λ z. z) (λ m. absurd (Memᴰ.not-nil m)) (w j l)
    distance (u ∷ U) e w p =
        by_cases
        (dec_lt u N)
        (λ m. alone u e m (distance U (λ j. e j ⊗ (X j ⊕ X u)) (within_erase u U w) (λ i n. psum_erase (X u) e i ∙ rw (erase, p (suc i) (omega arith), p i (omega arith)) (simp ring))) (p 0 (omega arith)))
        (λ o. distance U e (within_outside u U o w) (λ i n. p i (omega arith)))

    -- two words with the same first sums, as many as they have places that may differ, are equal
    pub same : (U : List ℕ) {a b : ℕ → F} → Agree K N U a b → ((i : ℕ) → i < length U → psum K N X a i ≡ psum K N X b i) → (j : ℕ) → j < N → a j ≡ b j
    same U {a} {b} w p j l =
        ⊕_equal K _ _ (distance U (λ k. a k ⊕ b k) (λ k m. ⊎_elim (λ q. inl (rw q (⊕_self K _))) inr (w k m)) (λ i m. psum-⊕ a b i ∙ rw (p i m) (⊕_self K _)) j l)

    -- a word has at most one codeword that is near enough: E are the places that could not be read
    pub unique :
        (n : ℕ) (E T₁ T₂ : List ℕ) {w c₁ c₂ : ℕ → F} →
        Agree K N (E ++ T₁) c₁ w → Agree K N (E ++ T₂) w c₂ →
        length T₁ + length T₁ + length E ≤ n → length T₂ + length T₂ + length E ≤ n →
        ((i : ℕ) → i < n → psum K N X c₁ i ≡ 𝟘) → ((i : ℕ) → i < n → psum K N X c₂ i ≡ 𝟘) →
        (j : ℕ) → j < N → c₁ j ≡ c₂ j
    unique n E T₁ T₂ {c₁ = c₁} {c₂ = c₂} a₁ a₂ f₁ f₂ z₁ z₂ = same (E ++ T₁ ++ T₂) agree (λ i m. z₁ i (short i m) ∙ sym (z₂ i (short i m)))
      where
        short : (i : ℕ) → i < length (E ++ T₁ ++ T₂) → i < n
        short i m = omega (arith, simp length-append at m)

        right : {j : ℕ} → Memᴰ j (E ++ T₂) → Memᴰ j (E ++ T₁ ++ T₂)
        right m = ⊎_elim (λ x. Memᴰ.append_left T₂ (Memᴰ.append_left T₁ x)) (λ x. Memᴰ.append_right (E ++ T₁) x) (Memᴰ.append_cases E m)

        agree : Agree K N (E ++ T₁ ++ T₂) c₁ c₂
        agree j l = ⊎_elim (λ p. ⊎_elim (λ q. inl (p ∙ q)) (λ m. inr (right m)) (a₂ j l)) (λ m. inr (Memᴰ.append_left T₂ m)) (a₁ j l)
