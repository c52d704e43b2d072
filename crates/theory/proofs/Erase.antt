-- Erasing the places of a list from a word's power sums.
use mathlib.Core.Path.{◌≡◌, refl, sym, ap, ap₂, ◌∙◌, fun_ext}
use mathlib.Core.Logic.{◌≢◌, ⊎_elim}
use mathlib.Core.List.Memᴰ
use mathlib.Core.List.{List, [], ◌∷◌, Memᴰ}
use Prim.Native.Nat.{ℕ, suc, ◌+◌, ◌<◌}
use native.Mathlib.Omega.{arith}
use lib.ListN.{length}
use Rattle.theory.proofs.Field.{Field}
use Rattle.theory.proofs.Sum.{pow}
use Rattle.theory.proofs.Places.{Apart, Within, psum, erase, erase_all, spread}
use Rattle.theory.proofs.Algebra.{ring, ⊗_one, zero-⊗, ⊗_zero, ⊗_assoc, ⊕_equal, zero_product, sum_single}
use Rattle.theory.proofs.Distance.{psum_erase}

module _ (K : Field) (X : ℕ → K.F) where
  open K use {F, ◌⊕◌, ◌⊗◌, 𝟘}

  -- m values after the erasures come of m + length U values before
  pub erase_all_window : (U : List ℕ) (m : ℕ) {s s' : ℕ → F} → ((h : ℕ) → h < m + length U → s h ≡ s' h) → (h : ℕ) → h < m → erase_all K X U s h ≡ erase_all K X U s' h
  unfolding erase erase_all
  erase_all_window [] m f h l = f h (omega arith)
  erase_all_window (u ∷ U) m f h l = erase_all_window U m (λ k q. ap₂ (λ x y. x ⊕ X u ⊗ y) (f (suc k) (omega arith)) (f k (omega arith))) h l

  pub spread_zero : (U : List ℕ) {j : ℕ} → Memᴰ j U → spread K X U j ≡ 𝟘
  unfolding spread
  spread_zero [] m = absurd (Memᴰ.not-nil m)
  spread_zero (u ∷ U) {j} m =
      ⊎_elim
      (λ p. ap (λ k. (X k ⊕ X u) ⊗ spread K X U j) p ∙ simp ring)
      (λ q. ap (λ x. (X j ⊕ X u) ⊗ x) (spread_zero U q) ∙ ⊗_zero K _)
      (Memᴰ.cases_cons m)

module _ (K : Field) (N : ℕ) (X : ℕ → K.F) where
  open K use {F, ◌⊕◌, ◌⊗◌, 𝟘, 𝟙}

  pub psum_erase_all : (U : List ℕ) (e : ℕ → F) (i : ℕ) → erase_all K X U (psum K N X e) i ≡ psum K N X (λ j. e j ⊗ spread K X U j) i
  unfolding erase_all spread
  psum_erase_all [] e i = simp (⊗_one K)
  psum_erase_all (u ∷ U) e i =
      ap (λ s. erase_all K X U s i) (fun_ext (λ h. sym (psum_erase K N X (X u) e h))) ∙ psum_erase_all U (λ j. e j ⊗ (X j ⊕ X u)) i ∙ simp (⊗_assoc K)

  pub spread_nonzero : Apart K N X → (U : List ℕ) → ((u : ℕ) → Memᴰ u U → u < N) → (j : ℕ) → j < N → spread K X U j ≡ 𝟘 → Memᴰ j U
  unfolding spread
  spread_nonzero apart [] b j l z = absurd (K.one≢zero z)
  spread_nonzero apart (u ∷ U) b j l z =
      ⊎_elim
      (λ p. Memᴰ.head (apart j u l (b u (Memᴰ.head refl)) (⊕_equal K _ _ p)))
      (λ p. Memᴰ.tail (spread_nonzero apart U (λ v m. b v (Memᴰ.tail m)) j l p))
      (zero_product K _ _ z)

  -- the value at u alone is left where every other place is erased
  pub value : (u : ℕ) (U : List ℕ) (e : ℕ → F) → u < N → Within K N (u ∷ U) e → erase_all K X U (psum K N X e) 0 ≡ e u ⊗ spread K X U u
  unfolding psum pow
  value u U e l w = psum_erase_all U e 0 ∙ sum_single K N u l (λ k m d. ap (λ x. x ⊗ 𝟙) (other k m d) ∙ zero-⊗ K 𝟙) ∙ ⊗_one K _
    where
      other : (k : ℕ) → k < N → k ≢ u → e k ⊗ spread K X U k ≡ 𝟘
      other k m d =
          ⊎_elim
          (λ z. ap (λ x. x ⊗ spread K X U k) z ∙ zero-⊗ K _)
          (λ q. ⊎_elim (λ p. absurd (d p)) (λ p. ap (λ x. e k ⊗ x) (spread_zero K X U p) ∙ ⊗_zero K _) (Memᴰ.cases_cons q))
          (w k m)
