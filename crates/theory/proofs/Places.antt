-- A Reed-Solomon code: a word has N places, and place j has the locator X j. A word is read as a function of its places.
use mathlib.Core.Path.{◌≡◌}
use mathlib.Core.Logic.{◌⊎◌}
use mathlib.Core.List.{List, [], ◌∷◌, Memᴰ}
use Prim.Native.Nat.{ℕ, suc, ◌<◌}
use Rattle.theory.proofs.Field.{Field}
use Rattle.theory.proofs.Sum.{sum, pow}

module _ (K : Field) where
  open K use {F, ◌⊕◌, ◌⊗◌, 𝟘, 𝟙}

  -- the locators differ
  abbrev pub Apart : ℕ → (ℕ → F) → Type 0
  Apart N X = (j k : ℕ) → j < N → k < N → X j ≡ X k → j ≡ k

  -- the words are equal outside the list of places
  abbrev pub Agree : ℕ → List ℕ → (ℕ → F) → (ℕ → F) → Type 0
  Agree N U a b = (j : ℕ) → j < N → (a j ≡ b j) ⊎ Memᴰ j U

  -- the word is 0 outside the list of places
  abbrev pub Within : ℕ → List ℕ → (ℕ → F) → Type 0
  Within N U e = Agree N U e (λ j. 𝟘)

  -- the i-th power sum of a word; for a word that was read, its i-th syndrome
  unfoldable pub psum : (N : ℕ) (X : ℕ → F) → (ℕ → F) → ℕ → F
  psum N X e i = sum K N (λ j. e j ⊗ pow K (X j) i)

  -- one step on a sequence, by which every place with the locator x drops out of its power sums
  unfoldable pub erase : F → (ℕ → F) → ℕ → F
  erase x s i = s (suc i) ⊕ x ⊗ s i

  -- the same for each place of a list, the first first
  unfoldable pub erase_all : (X : ℕ → F) → List ℕ → (ℕ → F) → ℕ → F
  erase_all X [] s = s
  erase_all X (u ∷ U) s = erase_all X U (erase (X u) s)

  -- by what that multiplies the value at place j
  unfoldable pub spread : (X : ℕ → F) → List ℕ → ℕ → F
  spread X [] j = 𝟙
  spread X (u ∷ U) j = (X j ⊕ X u) ⊗ spread X U j
