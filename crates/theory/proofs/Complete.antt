-- The decoder is complete: where a codeword is near enough, the places that it suspects are few and hold every place that differs.
use mathlib.Core.Path.{◌≡◌, sym, ap, ◌∙◌}
use mathlib.Core.Logic.{◌≢◌, ◌⊎◌, inl, inr, ⊎_elim}
use mathlib.Core.List.Memᴰ
use mathlib.Core.List.{List, ◌∷◌, ◌++◌, Memᴰ}
use Prim.Native.Nat.{ℕ, ◌+◌, ◌≤◌, ◌<◌}
use native.Mathlib.Omega.{arith}
use lib.ListN.{length, length-append}
use Rattle.theory.proofs.Field.{Field}
use Rattle.theory.proofs.Places.{Apart, Agree, Within, psum, erase_all, spread}
use Rattle.theory.proofs.Run.{eval, Roots, roots, Run}
use Rattle.theory.proofs.Algebra.{ring, ⊕_zero, ⊕_self, ⊗_assoc, ⊕_equal, ⊗_zero, zero_product}
use Rattle.theory.proofs.Distance.{psum-⊕, same}
use Rattle.theory.proofs.Erase.{psum_erase_all, erase_all_window, spread_zero, spread_nonzero, value}
use Rattle.theory.proofs.Locator.{Located, locator, locator_root}
use Rattle.theory.proofs.Massey.{act_window}
use Rattle.theory.proofs.Root.{root_bound, roots_are, roots_all}

module _ (K : Field) (N : ℕ) (X : ℕ → K.F) (apart : Apart K N X) where
  open K use {F, ◌⊕◌, ◌⊗◌, 𝟘, inv}

  -- the error of a word, with the places E multiplied away
  abbrev error : List ℕ → (ℕ → F) → (ℕ → F) → ℕ → F
  error E w c j = (w j ⊕ c j) ⊗ spread K X E j

  -- the sums of a word are those of its error
  syndrome : (w c : ℕ → F) (h : ℕ) → psum K N X c h ≡ 𝟘 → psum K N X w h ≡ psum K N X (λ j. w j ⊕ c j) h
  syndrome w c h z = sym (psum-⊕ K N X w c h ∙ rw z (⊕_zero K _))

  -- The word w was read with the places E erased, and the codeword c differs from it at the places T besides. The code has m + length E check values.
  -- s are the values after the erasures, and the run over all m of them found A.
  module _
      (n m : ℕ) (E T : List ℕ) {w c : ℕ → F}
      (places : (u : ℕ) → Memᴰ u E → u < N)
      (near : Agree K N (E ++ T) w c)
      (codeword : (h : ℕ) → h < m + length E → psum K N X c h ≡ 𝟘)
      (few : length T + length T ≤ m)
      (room : m < n)
      (s : ℕ → F)
      (read : (h : ℕ) → h < m → s h ≡ erase_all K X E (psum K N X w) h)
      {i L : ℕ} {A B : ℕ → F} {b : F}
      (run : Run K n s i L A B b)
      (whole : i + L ≡ m)
    where
      within : Within K N T (error E w c)
      within j l =
          ⊎_elim
          (λ p. inl (ap (λ x. (x ⊕ c j) ⊗ spread K X E j) p ∙ simp ring))
          (λ q. ⊎_elim (λ p. inl (ap (λ x. (w j ⊕ c j) ⊗ x) (spread_zero K X E p) ∙ ⊗_zero K _)) inr (Memᴰ.append_cases E q))
          (near j l)

      sums : (h : ℕ) → h < m → s h ≡ psum K N X (error E w c) h
      sums h l =
          read h l
          ∙ erase_all_window K X E m (λ k q. syndrome w c k (codeword k q)) h l
          ∙ psum_erase_all K N X E (λ j. w j ⊕ c j) h

      short : L ≤ length T
      short = least (locator K N X n T (error E w c) within (omega arith))
        where
          least : Located K n (length T) (psum K N X (error E w c)) → L ≤ length T
          least r = run.least (length T) r.poly (omega arith) r.monic (λ h q. act_window K n s (psum K N X (error E w c)) h r.monic.below (λ k l. sums (h + k) (omega arith)) ∙ r.zeros h)

      root : (j : ℕ) → j < N → (error E w c j ≡ 𝟘) ⊎ (eval K n A (X j) ≡ 𝟘)
      root =
          locator_root K N X apart n A (error E w c) T within λ h q.
          act_window K n (psum K N X (error E w c)) s h run.monic.below (λ k l. sym (sums (h + k) (omega (arith, short)))) ∙ run.zeros h (omega (arith, short))

      -- where U holds E and every place whose locator is a root of A, the codeword differs from the word within U
      pub covers : (U : List ℕ) → ((j : ℕ) → Memᴰ j E → Memᴰ j U) → ((j : ℕ) → j < N → eval K n A (X j) ≡ 𝟘 → Memᴰ j U) → Agree K N U w c
      covers U erased roots j l =
          ⊎_elim
          (λ z. ⊎_elim (λ p. inl (⊕_equal K _ _ p)) (λ p. inr (erased j (spread_nonzero K N X apart E places j l p))) (zero_product K _ _ z))
          (λ z. inr (roots j l z))
          (root j l)

      -- roots of A are few: E and R are no more places than there are check values
      pub fits : (R : List ℕ) → Roots K n X A N R → length (E ++ R) ≤ m + length E
      fits R some = rw length-append (omega (arith, root_bound K N X apart n L A (omega (arith, short)) run.monic N (omega arith) R some, short))

      -- so the places that the decoder suspects, the erased ones and the roots, are few, and hold every place that differs
      pub complete : Agree K N (E ++ roots K n X A N) w c × (length (E ++ roots K n X A N) ≤ m + length E)
      complete = (
        covers (E ++ roots K n X A N) (λ j p. Memᴰ.append_left (roots K n X A N) p) (λ j l z. Memᴰ.append_right E (roots_all K n X A N j l z)),
        fits (roots K n X A N) (roots_are K n X A N),
      )

  -- what agrees with the word outside few places, and has the check values of a codeword, is that codeword
  pub solved :
      (U : List ℕ) {w c c' : ℕ → F} → Agree K N U w c → Agree K N U w c' →
      ((i : ℕ) → i < length U → psum K N X c i ≡ psum K N X c' i) → (j : ℕ) → j < N → c j ≡ c' j
  solved U a a' = same K N X apart U (λ j l. ⊎_elim (λ p. ⊎_elim (λ q. inl (sym p ∙ q)) inr (a' j l)) inr (a j l))

  -- the value of the codeword at u, one of few places outside which it agrees with the word: erase the other places
  pub solve :
      (U₁ U₂ : List ℕ) (u : ℕ) {w c : ℕ → F} → Agree K N (U₁ ++ u ∷ U₂) w c →
      ((h : ℕ) → h < length (U₁ ++ u ∷ U₂) → psum K N X c h ≡ 𝟘) → u < N → spread K X (U₁ ++ U₂) u ≢ 𝟘 →
      c u ≡ w u ⊕ erase_all K X (U₁ ++ U₂) (psum K N X w) 0 ⊗ inv (spread K X (U₁ ++ U₂) u)
  solve U₁ U₂ u {w} {c} near codeword l n =
      sym (ap (λ x. w u ⊕ x ⊗ inv (spread K X (U₁ ++ U₂) u)) (others ∙ value K N X u (U₁ ++ U₂) (λ j. w j ⊕ c j) l within) ∙ rw (⊗_assoc K, K.⊗_inv _ n) (simp ring))
    where
      within : Within K N (u ∷ (U₁ ++ U₂)) (λ j. w j ⊕ c j)
      within j m =
          ⊎_elim
          (λ p. inl (ap (λ x. x ⊕ c j) p ∙ ⊕_self K _))
          (λ q.
          ⊎_elim
          (λ p. inr (Memᴰ.tail (Memᴰ.append_left U₂ p)))
          (λ r. ⊎_elim (λ p. inr (Memᴰ.head p)) (λ p. inr (Memᴰ.tail (Memᴰ.append_right U₁ p))) (Memᴰ.cases_cons r))
          (Memᴰ.append_cases U₁ q))
          (near j m)

      others : erase_all K X (U₁ ++ U₂) (psum K N X w) 0 ≡ erase_all K X (U₁ ++ U₂) (psum K N X (λ j. w j ⊕ c j)) 0
      others = erase_all_window K X (U₁ ++ U₂) 1 (λ h q. syndrome w c h (codeword h (rw length-append (omega (arith, simp length-append at q))))) 0 (omega arith)
