-- Laws of a field of characteristic 2, and of finite sums in it.
use mathlib.Core.Path.{◌≡◌, refl, sym, ap, ap₂, ◌∙◌}
use mathlib.Core.Logic.{◌≢◌, ◌⊎◌, inl, inr, by_cases}
use Prim.Native.Nat.{ℕ, zero, suc, ◌+◌, ◌≤◌, ◌<◌}
use native.Mathlib.Nat.{zero-add, suc-add, eq-or-lt_of_le, le_of_suc-le-suc}
use native.Mathlib.Decide.{dec_le}
use native.Mathlib.Omega.{arith}
use Rattle.theory.proofs.Field.{Field}
use Rattle.theory.proofs.Sum.{sum, pow}

module _ (K : Field) where
  open K use {F, ◌⊕◌, ◌⊗◌, 𝟘, 𝟙, inv}

  -- the field's own laws under names that a ruleset can list
  pub ⊕_assoc : (a b c : F) → a ⊕ b ⊕ c ≡ a ⊕ (b ⊕ c)
  ⊕_assoc = K.⊕_assoc

  pub ⊕_comm : (a b : F) → a ⊕ b ≡ b ⊕ a
  ⊕_comm = K.⊕_comm

  pub ⊕_zero : (a : F) → a ⊕ 𝟘 ≡ a
  ⊕_zero = K.⊕_zero

  pub ⊕_self : (a : F) → a ⊕ a ≡ 𝟘
  ⊕_self = K.⊕_self

  pub ⊗_assoc : (a b c : F) → a ⊗ b ⊗ c ≡ a ⊗ (b ⊗ c)
  ⊗_assoc = K.⊗_assoc

  pub ⊗_comm : (a b : F) → a ⊗ b ≡ b ⊗ a
  ⊗_comm = K.⊗_comm

  pub ⊗_one : (a : F) → a ⊗ 𝟙 ≡ a
  ⊗_one = K.⊗_one

  pub ⊗_zero : (a : F) → a ⊗ 𝟘 ≡ 𝟘
  ⊗_zero = K.⊗_zero

  pub ⊗_dist : (a b c : F) → a ⊗ (b ⊕ c) ≡ a ⊗ b ⊕ a ⊗ c
  ⊗_dist = K.⊗_dist

  pub zero-⊕ : (a : F) → 𝟘 ⊕ a ≡ a
  zero-⊕ a = ⊕_comm 𝟘 a ∙ ⊕_zero a

  pub zero-⊗ : (a : F) → 𝟘 ⊗ a ≡ 𝟘
  zero-⊗ a = ⊗_comm 𝟘 a ∙ ⊗_zero a

  pub one-⊗ : (a : F) → 𝟙 ⊗ a ≡ a
  one-⊗ a = ⊗_comm 𝟙 a ∙ ⊗_one a

  pub dist-⊗ : (a b c : F) → (a ⊕ b) ⊗ c ≡ a ⊗ c ⊕ b ⊗ c
  dist-⊗ a b c = simp (⊗_comm a c, ⊗_comm b c, ⊗_comm (a ⊕ b) c, ⊗_dist)

  pub ⊕_left_comm : (a b c : F) → a ⊕ (b ⊕ c) ≡ b ⊕ (a ⊕ c)
  ⊕_left_comm a b c = simp (← ⊕_assoc, ⊕_comm a b)

  pub ⊗_left_comm : (a b c : F) → a ⊗ (b ⊗ c) ≡ b ⊗ (a ⊗ c)
  ⊗_left_comm a b c = simp (← ⊗_assoc, ⊗_comm a b)

  pub ⊕_cancel : (a b : F) → a ⊕ (a ⊕ b) ≡ b
  ⊕_cancel a b = simp (← ⊕_assoc, ⊕_self, zero-⊕)

  -- both sides of an equation are multiplied out and sorted, and equal terms cancel
  pub ruleset ring =
      (⊕_assoc, ⊕_comm, ⊕_left_comm, ⊕_zero, zero-⊕, ⊕_self, ⊕_cancel, ⊗_assoc, ⊗_comm, ⊗_left_comm, ⊗_one, one-⊗, ⊗_zero, zero-⊗, ⊗_dist, dist-⊗)

  pub ⊕_equal : (a b : F) → a ⊕ b ≡ 𝟘 → a ≡ b
  ⊕_equal a b h = let p : a ⊕ b ⊕ b ≡ 𝟘 ⊕ b = ap (λ x. x ⊕ b) h in simp ring at p

  pub zero_product : (a b : F) → a ⊗ b ≡ 𝟘 → (a ≡ 𝟘) ⊎ (b ≡ 𝟘)
  zero_product a b h = go (K.equal a 𝟘)
    where
      go : Dec (a ≡ 𝟘) → (a ≡ 𝟘) ⊎ (b ≡ 𝟘)
      go (yes e) = inl e
      go (no n) =
          let p : a ⊗ inv a ⊗ b ≡ 𝟘 = rw (⊗_assoc, ⊗_left_comm a, h, ⊗_zero) in
          inr (rw (K.⊗_inv a n, one-⊗) at p)

  -- sums of equal terms, of terms that are sums, and of multiples
  pub sum_cong : (n : ℕ) {f g : ℕ → F} → ((k : ℕ) → k < n → f k ≡ g k) → sum K n f ≡ sum K n g
  unfolding sum
  sum_cong zero h = refl
  sum_cong (suc n) h = ap₂ ◌⊕◌ (sum_cong n (λ k l. h k (omega arith))) (h n (omega arith))

  pub sum_zero : (n : ℕ) {f : ℕ → F} → ((k : ℕ) → k < n → f k ≡ 𝟘) → sum K n f ≡ 𝟘
  unfolding sum
  sum_zero zero h = refl
  sum_zero (suc n) h = ap₂ ◌⊕◌ (sum_zero n (λ k l. h k (omega arith))) (h n (omega arith)) ∙ ⊕_zero 𝟘

  pub sum-⊕ : (n : ℕ) (f g : ℕ → F) → sum K n (λ k. f k ⊕ g k) ≡ sum K n f ⊕ sum K n g
  unfolding sum
  sum-⊕ zero f g = simp ring
  sum-⊕ (suc n) f g = simp (sum-⊕ n f g, ring)

  pub sum-⊗ : (n : ℕ) (c : F) (f : ℕ → F) → sum K n (λ k. c ⊗ f k) ≡ c ⊗ sum K n f
  unfolding sum
  sum-⊗ zero c f = simp ring
  sum-⊗ (suc n) c f = simp (sum-⊗ n c f, ring)

  pub ⊗_sum : (n : ℕ) (c : F) (f : ℕ → F) → sum K n (λ k. f k ⊗ c) ≡ sum K n f ⊗ c
  ⊗_sum n c f = sum_cong n (λ k l. ⊗_comm (f k) c) ∙ sum-⊗ n c f ∙ ⊗_comm c (sum K n f)

  pub sum_swap : (n m : ℕ) (f : ℕ → ℕ → F) → sum K n (λ k. sum K m (λ l. f k l)) ≡ sum K m (λ l. sum K n (λ k. f k l))
  unfolding sum
  sum_swap zero m f = simp (sum_zero m (λ l h. refl))
  sum_swap (suc n) m f = ap (λ x. x ⊕ sum K m (f n)) (sum_swap n m f) ∙ sym (sum-⊕ m _ _)

  -- the first term instead of the last
  pub sum_front : (n : ℕ) (f : ℕ → F) → sum K (suc n) f ≡ f zero ⊕ sum K n (λ k. f (suc k))
  unfolding sum
  sum_front zero f = simp ring
  sum_front (suc n) f = ap (λ x. x ⊕ f (suc n)) (sum_front n f) ∙ ⊕_assoc _ _ _

  pub sum_less : (n : ℕ) (f : ℕ → F) → f n ≡ 𝟘 → sum K (suc n) f ≡ sum K n f
  unfolding sum
  sum_less n f h = ap (λ x. sum K n f ⊕ x) h ∙ ⊕_zero (sum K n f)

  -- a sum whose terms vanish from m on
  pub sum_few : (n m : ℕ) (f : ℕ → F) → m ≤ n → ((k : ℕ) → m ≤ k → f k ≡ 𝟘) → sum K n f ≡ sum K m f
  sum_few zero m f l h = ap (λ k. sum K k f) (omega arith)
  sum_few (suc n) m f l h =
      by_cases (dec_le m n) (λ q. sum_less n f (h n q) ∙ sum_few n m f q h) (λ q. ap (λ k. sum K k f) (omega arith))

  -- a sum whose terms vanish, all but one
  pub sum_single : (n u : ℕ) {f : ℕ → F} → u < n → ((k : ℕ) → k < n → k ≢ u → f k ≡ 𝟘) → sum K n f ≡ f u
  unfolding sum
  sum_single zero u l h = absurd (omega arith)
  sum_single (suc n) u {f} l h = go (eq-or-lt_of_le (le_of_suc-le-suc l)) (sum_single n u)
    where
      go : (u ≡ n) ⊎ (u < n) → (u < n → ((k : ℕ) → k < n → k ≢ u → f k ≡ 𝟘) → sum K n f ≡ f u) → sum K n f ⊕ f n ≡ f u
      go (inl e) below = ap₂ ◌⊕◌ (sum_zero n (λ k m. h k (omega arith) (omega arith))) (ap f (sym e)) ∙ zero-⊕ (f u)
      go (inr m) below = ap₂ ◌⊕◌ (below m (λ k j. h k (omega arith))) (h n (omega arith) (omega arith)) ∙ ⊕_zero (f u)

  pub pow_+ : (x : F) (i k : ℕ) → pow K x (i + k) ≡ pow K x i ⊗ pow K x k
  unfolding pow
  pow_+ x zero k = simp (zero-add, ring)
  pow_+ x (suc i) k = ap (pow K x) (suc-add i k) ∙ ap (λ y. x ⊗ y) (pow_+ x i k) ∙ sym (⊗_assoc _ _ _)
