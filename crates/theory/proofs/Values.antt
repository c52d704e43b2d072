-- The values of a word whose places are known: a polynomial that has their locators for roots, its quotients, and the sums that it makes of the word's.
-- A polynomial is evaluated from its highest coefficient down, and with it its quotient at the same point.
use mathlib.Core.Path.{◌≡◌, refl, sym, ap, ◌∙◌}
use mathlib.Core.Logic.{◌≢◌, ◌⊎◌, ⊎_elim, by_cases}
use mathlib.Core.List.{List, [], ◌∷◌}
use Prim.Native.Nat.{ℕ, zero, suc, ◌+◌, ◌≤◌, ◌<◌}
use native.Mathlib.Nat.{add-zero, add-suc, zero-add, suc-add, add_comm, eq-or-lt_of_le, le_of_suc-le-suc}
use native.Mathlib.Decide.{ℕ_discrete}
use native.Mathlib.Numerals.{one-add}
use native.Mathlib.Omega.{arith}
use lib.ListN.{length}
use Rattle.theory.proofs.Field.{Field}
use Rattle.theory.proofs.Sum.{sum, pow}
use Rattle.theory.proofs.Places.{Apart, psum}
use Rattle.theory.proofs.Run.{act, eval, Roots, Below, Monic, one, shift, mix}
use Rattle.theory.proofs.Algebra.{ring, zero-⊕, zero-⊗, ⊗_zero, ⊗_one, ⊗_assoc, ⊕_equal, zero_product, sum_cong, sum_zero, ⊗_sum, sum_swap, sum_single}
use Rattle.theory.proofs.Massey.{shift_below, one_below, mix_below, mix_lead, act_window}
use Rattle.theory.proofs.Locator.{act_psum}
use Rattle.theory.proofs.Root.{eval_front, eval-⊕, quotient, quotient_below, quotient_monic, divide, root_bound}

module _ (K : Field) where
  open K use {F, ◌⊕◌, ◌⊗◌, 𝟘, 𝟙, inv}

  -- what A is at x, with its coefficients below k left out and divided by x to the power k
  unfoldable pub tail : ℕ → (ℕ → F) → F → ℕ → F
  tail n A x k = eval K n (λ l. A (k + l)) x

  pub tail_step : (n : ℕ) (A : ℕ → F) (x : F) (k : ℕ) → Below K n A → tail n A x k ≡ A k ⊕ x ⊗ tail n A x (suc k)
  unfolding tail
  tail_step n A x k b = eval_front K n {A = λ l. A (k + l)} x (λ h q. b (k + h) (omega arith)) ∙ simp (tail, add-zero, add-suc, suc-add)

  pub tail_end : (n : ℕ) (A : ℕ → F) (x : F) (k : ℕ) → Below K k A → tail n A x k ≡ 𝟘
  unfolding tail eval
  tail_end n A x k b = sum_zero K n (λ h q. rw (b (k + h) (omega arith)) (zero-⊗ K _))

  pub tail_all : (n : ℕ) (A : ℕ → F) (x : F) → tail n A x 0 ≡ eval K n A x
  unfolding tail
  tail_all n A x = simp (tail, zero-add)

  -- the quotient of A by the variable minus x, at x
  unfoldable pub slope : ℕ → (ℕ → F) → F → F
  slope n A x = eval K n (quotient K n A x) x

  -- the same from its coefficient k on: the two go down together
  unfoldable pub slopes : ℕ → (ℕ → F) → F → ℕ → F
  slopes n A x k = tail n (quotient K n A x) x k

  pub slopes_step : (n : ℕ) (A : ℕ → F) (x : F) (k : ℕ) → Below K n A → slopes n A x k ≡ tail n A x (suc k) ⊕ x ⊗ slopes n A x (suc k)
  unfolding slopes quotient tail
  slopes_step n A x k b = tail_step n (quotient K n A x) x k (quotient_below K n n A x (λ h q. b h (omega arith))) ∙ simp (slopes, tail, quotient, suc-add)

  pub slopes_end : (n : ℕ) (A : ℕ → F) (x : F) (k : ℕ) → Below K k A → slopes n A x k ≡ 𝟘
  unfolding slopes
  slopes_end n A x k b = tail_end n (quotient K n A x) x k (quotient_below K n k A x (λ h q. b h (omega arith)))

  pub slopes_all : (n : ℕ) (A : ℕ → F) (x : F) → slopes n A x 0 ≡ slope n A x
  unfolding slopes slope
  slopes_all n A x = tail_all n (quotient K n A x) x

  -- A times the variable minus x
  unfoldable pub times : F → (ℕ → F) → ℕ → F
  times x A = mix K 1 0 x A A

  -- the product of the variable minus x 0, .., x (k - 1)
  unfoldable pub product : (ℕ → F) → ℕ → ℕ → F
  product x zero = one K
  product x (suc k) = times (x k) (product x k)

  pub times_monic : (x : F) (L : ℕ) (A : ℕ → F) → Monic K L A → Monic K (suc L) (times x A)
  unfolding times mix shift
  times_monic x L A m = record {
    lead = rw one-add at (mix_lead K 1 0 x A m m.below (omega arith));
    below = λ k q. mix_below K 1 0 x m.below m.below k (omega arith) (omega arith);
  }

  pub product_monic : (x : ℕ → F) (k : ℕ) → Monic K k (product x k)
  unfolding product one
  product_monic x zero = record { lead = refl; below = one_below K }
  product_monic x (suc k) = times_monic (x k) k (product x k) (product_monic x k)

  eval_times : (n : ℕ) (x y : F) {L : ℕ} (A : ℕ → F) → Below K (suc L) A → suc L < n → eval K n (times x A) y ≡ (y ⊕ x) ⊗ eval K n A y
  unfolding times mix shift
  eval_times n x y A m l =
      eval-⊕ K n (shift K 1 A) (shift K 0 A) x y
      ∙ ap (λ z. z ⊕ x ⊗ eval K n A y) (eval_front K n {A = shift K 1 A} y (λ k q. shift_below K 1 m k (omega arith)))
      ∙ simp ring

  pub product_root : (n : ℕ) (x : ℕ → F) (k h : ℕ) → k < n → h < k → eval K n (product x k) (x h) ≡ 𝟘
  unfolding product
  product_root n x zero h l q = absurd (omega arith)
  product_root n x (suc k) h l q =
      eval_times n (x k) (x h) (product x k) (product_monic x k).below l
      ∙ ⊎_elim
      (λ (e : h ≡ k). ap (λ j. (x j ⊕ x k) ⊗ eval K n (product x k) (x h)) e ∙ simp ring)
      (λ m. ap (λ z. (x h ⊕ x k) ⊗ z) (product_root n x k h (omega arith) m) ∙ ⊗_zero K _)
      (eq-or-lt_of_le (le_of_suc-le-suc q))

  -- the sums of a word, multiplied by A and divided by powers of the variable: at a root of A they are those of the quotient
  unfoldable pub evaluator : ℕ → (A s : ℕ → F) → ℕ → F
  evaluator n A s l = sum K n (λ k. A (suc (l + k)) ⊗ s k)

  pub evaluator_below : (n m : ℕ) (A s : ℕ → F) → Below K (suc m) A → Below K m (evaluator n A s)
  unfolding evaluator
  evaluator_below n m A s b h l = sum_zero K n (λ k q. rw (b (suc (h + k)) (omega arith)) (zero-⊗ K _))

  evaluator_eval : (n : ℕ) (A s : ℕ → F) (x : F) → eval K n (evaluator n A s) x ≡ act K n (quotient K n A x) s 0
  unfolding evaluator eval quotient act
  evaluator_eval n A s x =
      simp (eval, evaluator, ← ⊗_sum K) (sum_swap K n n _ ∙ sum_cong K n (λ k l. sum_cong K n (λ h m. ap (λ i. A (suc i) ⊗ s k ⊗ pow K x h) (add_comm h k) ∙ simp (ring, zero-add))))

module _ (K : Field) (N : ℕ) (X : ℕ → K.F) (apart : Apart K N X) (n : ℕ) where
  open K use {F, ◌⊕◌, ◌⊗◌, 𝟘, 𝟙, inv}

  module _ {A : ℕ → F} (b : Below K n A) {u : ℕ} (l : u < N) (z : eval K n A (X u) ≡ 𝟘) where
    -- another root of A is one of the quotient
    other_root : (j : ℕ) → j < N → j ≢ u → eval K n A (X j) ≡ 𝟘 → eval K n (quotient K n A (X u)) (X j) ≡ 𝟘
    other_root j m d e =
        ⊎_elim
        (λ p. absurd (d (apart j u m l (⊕_equal K _ _ p))))
        (λ p. p)
        (zero_product K _ _ (rw (z, zero-⊕ K) at (sym (divide K n A (X u) (X j) b) ∙ e)))

    roots_again : slope K n A (X u) ≡ 𝟘 → (c : ℕ) → c ≤ N → (U : List ℕ) → Roots K n X A c U → Roots K n X (quotient K n A (X u)) c U
    unfolding slope
    roots_again e c m [] r = tt
    roots_again e c m (v ∷ U) r = (
      r.0,
      by_cases (ℕ_discrete v u) (λ (p : v ≡ u). rw p e) (λ p. other_root v (omega arith) p r.1),
      roots_again e v (omega arith) U r.2,
    )

  -- where A has no more coefficients than it needs for its roots, each root is simple
  pub slope_nonzero : (U : List ℕ) (A : ℕ → F) → Monic K (length U) A → length U < n → Roots K n X A N U → (u : ℕ) → u < N → eval K n A (X u) ≡ 𝟘 → slope K n A (X u) ≢ 𝟘
  slope_nonzero [] A m l r u h z e = absurd (omega (arith, root_bound K N X apart n 0 A l m N (omega arith) (u ∷ []) (h, z, tt)))
  slope_nonzero (v ∷ U) A m l r u h z e =
      absurd
      (omega (
        arith,
        root_bound K N X apart n (length U) (quotient K n A (X u)) (omega arith) (quotient_monic K n (length U) A (X u) (omega arith) m) N (omega arith) (v ∷ U)
            (roots_again (λ k q. m.below k (omega arith)) h z e N (omega arith) (v ∷ U) r),
      ))

  -- the value at u of a word that is 0 outside the roots of A, of its first sums s
  pub magnitude :
      (U : List ℕ) (A : ℕ → F) → Monic K (length U) A → length U < n → Roots K n X A N U →
      (e s : ℕ → F) → ((j : ℕ) → j < N → (e j ≡ 𝟘) ⊎ (eval K n A (X j) ≡ 𝟘)) → ((h : ℕ) → h < length U → s h ≡ psum K N X e h) →
      (u : ℕ) → u < N → eval K n A (X u) ≡ 𝟘 → e u ≡ eval K n (evaluator K n A s) (X u) ⊗ inv (slope K n A (X u))
  unfolding slope psum pow
  magnitude U A m l r e s within sums u h z =
      sym
      (ap (λ x. x ⊗ inv (slope K n A (X u)))
      (evaluator_eval K n A s (X u)
      ∙ act_window K n s (psum K N X e) 0 (quotient_below K n (length U) A (X u) m.below) (λ k q. sums (0 + k) (omega arith))
      ∙ act_psum K N X n (quotient K n A (X u)) e 0
      ∙ sum_single K N u h (λ k q d. ap (λ x. x ⊗ 𝟙) (others k q d) ∙ zero-⊗ K 𝟙)
      ∙ ⊗_one K _)
      ∙ rw (⊗_assoc K, K.⊗_inv _ (slope_nonzero U A m l r u h z)) (⊗_one K _))
    where
      others : (k : ℕ) → k < N → k ≢ u → e k ⊗ eval K n (quotient K n A (X u)) (X k) ≡ 𝟘
      others k q d =
          ⊎_elim
          (λ p. ap (λ x. x ⊗ eval K n (quotient K n A (X u)) (X k)) p ∙ zero-⊗ K _)
          (λ p. ap (λ x. e k ⊗ x) (other_root (λ i o. m.below i (omega arith)) h z k q d p) ∙ ⊗_zero K _)
          (within k q)
