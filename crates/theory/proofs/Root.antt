-- A monic polynomial of degree L has at most L roots.
use mathlib.Core.Path.{◌≡◌, sym, ap, ap₂, ◌∙◌, fun_ext}
use mathlib.Core.Logic.{⊎_elim}
use mathlib.Core.List.{List, [], ◌∷◌, Memᴰ}
use Prim.Native.Nat.{ℕ, zero, suc, ◌+◌, ◌≤◌, ◌<◌, suc-le-suc}
use native.Mathlib.Nat.{add-zero, add-suc, zero-add, suc-add, ne_of_lt, eq-or-lt_of_le, le_of_suc-le-suc, not-suc-le-zero}
use native.Mathlib.Omega.{arith}
use lib.ListN.{length}
use Rattle.theory.proofs.Field.{Field}
use Rattle.theory.proofs.Sum.{sum, pow}
use Rattle.theory.proofs.Places.{Apart}
use Rattle.theory.proofs.Run.{eval, Roots, roots, Below, Monic}
use Rattle.theory.proofs.Algebra.{ring, zero-⊕, zero-⊗, ⊗_one, ⊗_left_comm, ⊕_equal, zero_product, sum_zero, sum-⊕, sum-⊗, sum_front, sum_less, sum_single, sum_cong}

module _ (K : Field) where
  open K use {F, ◌⊕◌, ◌⊗◌, 𝟘, 𝟙}

  -- the constant coefficient and the rest
  pub eval_front : (n : ℕ) {A : ℕ → F} (x : F) → Below K n A → eval K n A x ≡ A 0 ⊕ x ⊗ eval K n (λ k. A (suc k)) x
  unfolding eval sum pow
  eval_front zero x b = rw (b 0 (omega arith)) (simp ring)
  eval_front (suc n) x b =
      sum_front K n _
      ∙ ap₂ ◌⊕◌ (⊗_one K _) (sum_cong K n (λ k l. ⊗_left_comm K _ x _) ∙ sum-⊗ K n x _ ∙ ap (λ y. x ⊗ y) (sym (sum_less K n _ (rw (b (suc n) (omega arith)) (zero-⊗ K _)))))

  pub eval-⊕ : (n : ℕ) (A B : ℕ → F) (c x : F) → eval K n (λ k. A k ⊕ c ⊗ B k) x ≡ eval K n A x ⊕ c ⊗ eval K n B x
  unfolding eval
  eval-⊕ n A B c x = rw (eval, ← sum-⊗ K n c, ← sum-⊕ K) (simp ring)

  pub eval_constant : (n : ℕ) {A : ℕ → F} (x : F) → 0 < n → Below K 1 A → eval K n A x ≡ A 0
  unfolding eval pow
  eval_constant n x l b = sum_single K n 0 l (λ k m d. rw (b k (omega arith)) (zero-⊗ K _)) ∙ ⊗_one K _

  -- A divided by the variable minus x
  unfoldable pub quotient : ℕ → (ℕ → F) → F → ℕ → F
  quotient n A x k = eval K n (λ l. A (suc (k + l))) x

  pub quotient_below : (n m : ℕ) (A : ℕ → F) (x : F) → Below K (suc m) A → Below K m (quotient n A x)
  unfolding quotient eval
  quotient_below n m A x b k l = sum_zero K n (λ h q. rw (b (suc (k + h)) (omega arith)) (zero-⊗ K _))

  pub quotient_monic : (n L : ℕ) (A : ℕ → F) (x : F) → 0 < n → Monic K (suc L) A → Monic K L (quotient n A x)
  unfolding quotient
  quotient_monic n L A x l c = record {
    lead = eval_constant n x l (λ k m. c.below (suc (L + k)) (omega arith)) ∙ ap (λ k. A (suc k)) (add-zero L) ∙ c.lead;
    below = quotient_below n (suc L) A x c.below;
  }

  pub quotient_step : (n : ℕ) (A : ℕ → F) (x : F) (k : ℕ) → Below K n A → quotient n A x k ≡ A (suc k) ⊕ x ⊗ quotient n A x (suc k)
  unfolding quotient
  quotient_step n A x k b = eval_front n x (λ h q. b (suc (k + h)) (omega arith)) ∙ simp (add-zero, add-suc, suc-add)

  quotient_first : (n : ℕ) (A : ℕ → F) (x : F) → Below K n A → eval K n A x ≡ A 0 ⊕ x ⊗ quotient n A x 0
  unfolding quotient
  quotient_first n A x b = eval_front n x b ∙ simp (quotient, zero-add)

  pub divide : (n : ℕ) (A : ℕ → F) (x y : F) → Below K n A → eval K n A y ≡ eval K n A x ⊕ (y ⊕ x) ⊗ eval K n (quotient n A x) y
  divide n A x y b = rw (eval_front n {A = A} y b, below, quotient_first n A x b, eval_front n {A = quotient n A x} y (quotient_below n n A x (λ k l. b k (omega arith)))) (simp ring)
    where
      below : eval K n (λ k. A (suc k)) y ≡ eval K n (quotient n A x) y ⊕ x ⊗ eval K n (λ k. quotient n A x (suc k)) y
      below = ap (λ f. eval K n f y) (fun_ext (λ k. rw (quotient_step n A x k b) (simp ring))) ∙ eval-⊕ n (quotient n A x) _ x y

  module _ (N : ℕ) (X : ℕ → F) (apart : Apart K N X) (n : ℕ) where
    roots_left : {A : ℕ → F} {u : ℕ} → Below K n A → u < N → eval K n A (X u) ≡ 𝟘 → (b : ℕ) → b ≤ u → (R : List ℕ) → Roots K n X A b R → Roots K n X (quotient n A (X u)) b R
    roots_left c l z b m [] r = tt
    roots_left {A} {u} c l z b m (v ∷ R) r = (
      r.0,
      ⊎_elim
          (λ p. absurd (ne_of_lt (omega arith) (apart v u (omega arith) l (⊕_equal K _ _ p))))
          (λ p. p)
          (zero_product K _ _ (rw (z, zero-⊕ K) at (sym (divide n A (X u) (X v) c) ∙ r.1))),
      roots_left c l z v (omega arith) R r.2,
    )

    pub root_bound : (L : ℕ) (A : ℕ → F) → L < n → Monic K L A → (b : ℕ) → b ≤ N → (R : List ℕ) → Roots K n X A b R → length R ≤ L
    root_bound L A l c b m [] r = omega arith
    root_bound zero A l c b m (u ∷ R) r = absurd (K.one≢zero (sym c.lead ∙ sym (eval_constant n (X u) l c.below) ∙ r.1))
    root_bound (suc L) A l c b m (u ∷ R) r =
        suc-le-suc (root_bound L (quotient n A (X u)) (omega arith) (quotient_monic n L A (X u) (omega arith) c) u (omega arith) R (roots_left (λ k q. c.below k (omega arith)) (omega arith) r.1 u (omega arith) R r.2))

  module _ (n : ℕ) (X A : ℕ → F) where
    roots_wider : (b c : ℕ) → b ≤ c → (R : List ℕ) → Roots K n X A b R → Roots K n X A c R
    roots_wider b c l [] r = tt
    roots_wider b c l (u ∷ R) r = (omega arith, r.1, r.2)

    pub roots_are : (N : ℕ) → Roots K n X A N (roots K n X A N)
    unfolding roots
    roots_are zero = tt
    roots_are (suc j) = go (K.equal (eval K n A (X j)) 𝟘) (roots_are j)
      where
        go : (d : Dec (eval K n A (X j) ≡ 𝟘)) → Roots K n X A j (roots K n X A j) →
            Roots K n X A (suc j) (elim d as (λ x. List ℕ) [ yes e ↦ j ∷ roots K n X A j | no e ↦ roots K n X A j ])
        go (yes e) r = (omega arith, e, r)
        go (no e) r = roots_wider j (suc j) (omega arith) (roots K n X A j) r

    pub roots_all : (N j : ℕ) → j < N → eval K n A (X j) ≡ 𝟘 → Memᴰ j (roots K n X A N)
    unfolding roots
    roots_all zero j l z = absurd (not-suc-le-zero l)
    roots_all (suc k) j l z = go (K.equal (eval K n A (X k)) 𝟘) (roots_all k j)
      where
        go : (d : Dec (eval K n A (X k) ≡ 𝟘)) → (j < k → eval K n A (X j) ≡ 𝟘 → Memᴰ j (roots K n X A k)) →
            Memᴰ j (elim d as (λ x. List ℕ) [ yes e ↦ k ∷ roots K n X A k | no e ↦ roots K n X A k ])
        go (yes e) below = ⊎_elim (λ p. Memᴰ.head p) (λ m. Memᴰ.tail (below m z)) (eq-or-lt_of_le (le_of_suc-le-suc l))
        go (no e) below = ⊎_elim (λ (p : j ≡ k). absurd (e (rw p at z))) (λ m. below m z) (eq-or-lt_of_le (le_of_suc-le-suc l))
