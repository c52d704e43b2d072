-- Polynomials by their lists of coefficients, evaluated in a field that the numbers are read in by e: sums, products with a number, and the division by a
-- monic polynomial, which leaves the value at a root as it is.
use mathlib.Core.Path.{◌≡◌, refl, sym, ap, ◌∙◌}
use mathlib.Core.List.{List, [], ◌∷◌, ◌++◌, map}
use Prim.Native.Nat.{ℕ, zero, suc, ◌+◌}
use native.Mathlib.Nat.{zero-add}
use native.Mathlib.Omega.{arith}
use lib.Bits.{bit_xor}
use lib.ListN.{length, replicate}
use Rattle.field.specs.Field.{mul_n}
use Rattle.theory.proofs.Field.{Field}
use Rattle.theory.proofs.Sum.{pow}
use Rattle.theory.proofs.Algebra.{ring, ⊕_zero, zero-⊗, ⊗_one}
use Rattle.code.specs.Code.{plus}

module _ (K : Field) (e : ℕ → K.F) where
  open K use {F, ◌⊕◌, ◌⊗◌, 𝟘, 𝟙}

  -- Horner's form, after coefficients whose value is y
  unfoldable pub eval : (x y : F) → List ℕ → F
  eval x y [] = y
  eval x y (c ∷ cs) = eval x (y ⊗ x ⊕ e c) cs

  pub eval_append : (x y : F) (l m : List ℕ) → eval x y (l ++ m) ≡ eval x (eval x y l) m
  unfolding eval
  eval_append x y [] m = refl
  eval_append x y (c ∷ l) m = eval_append x (y ⊗ x ⊕ e c) l m

  -- what stands before counts by the power of the length
  pub eval_split : (x y z : F) (l : List ℕ) → eval x (y ⊕ z) l ≡ y ⊗ pow K x (length l) ⊕ eval x z l
  unfolding eval pow
  eval_split x y z [] = simp ring
  eval_split x y z (c ∷ l) =
      ap (λ a. eval x a l) (simp ring) ∙ eval_split x (y ⊗ x) (z ⊗ x ⊕ e c) l ∙ ap (λ a. a ⊕ eval x (z ⊗ x ⊕ e c) l) (simp ring)

  module _ (e-zero : e 0 ≡ 𝟘) where
    pub eval_zeros : (x : F) (n : ℕ) → eval x 𝟘 (replicate n 0) ≡ 𝟘
    unfolding eval
    eval_zeros x zero = refl
    eval_zeros x (suc n) = ap (λ a. eval x a (replicate n 0)) (ap (λ a. 𝟘 ⊗ x ⊕ a) e-zero ∙ ⊕_zero K (𝟘 ⊗ x) ∙ zero-⊗ K x) ∙ eval_zeros x n

  module _ (e_add : (a b : ℕ) → e (bit_xor a b) ≡ e a ⊕ e b) where
    -- the sum of a list and one that is k shorter
    pub eval_plus : (x y z : F) (l m : List ℕ) (k : ℕ) → length l ≡ length m + k → eval x (y ⊕ z) (plus l m) ≡ eval x y l ⊕ eval x z m ⊗ pow K x k
    unfolding eval plus pow
    eval_plus x y z [] [] k h = ap (λ a. y ⊕ a) (sym (⊗_one K z) ∙ ap (λ j. z ⊗ pow K x j) (let none : 0 ≡ k = omega arith in none))
    eval_plus x y z [] (d ∷ m) k h = absurd (omega arith)
    eval_plus x y z (c ∷ l) [] k h =
        ap (λ a. eval x a (c ∷ l)) (K.⊕_comm y z) ∙ eval_split x z y (c ∷ l)
        ∙ K.⊕_comm (z ⊗ pow K x (suc (length l))) (eval x y (c ∷ l))
        ∙ ap (λ j. eval x y (c ∷ l) ⊕ z ⊗ pow K x j) (h ∙ zero-add k)
    eval_plus x y z (c ∷ l) (d ∷ m) k h =
        ap (λ a. eval x a (plus l m)) (ap (λ a. (y ⊕ z) ⊗ x ⊕ a) (e_add c d) ∙ sorted) ∙ eval_plus x (y ⊗ x ⊕ e c) (z ⊗ x ⊕ e d) l m k (omega arith)
      where
        sorted : (y ⊕ z) ⊗ x ⊕ (e c ⊕ e d) ≡ y ⊗ x ⊕ e c ⊕ (z ⊗ x ⊕ e d)
        sorted = simp ring

  -- a multiple
  pub eval_times : (c : ℕ) → ((b : ℕ) → e (mul_n c b) ≡ e c ⊗ e b) → (x y : F) (l : List ℕ) → eval x (e c ⊗ y) (map (mul_n c) l) ≡ e c ⊗ eval x y l
  unfolding eval
  eval_times c h x y [] = refl
  eval_times c h x y (b ∷ l) =
      ap (λ a. eval x a (map (mul_n c) l)) (ap (λ a. e c ⊗ y ⊗ x ⊕ a) (h b) ∙ sorted) ∙ eval_times c h x (y ⊗ x ⊕ e b) l
    where
      sorted : e c ⊗ y ⊗ x ⊕ e c ⊗ e b ≡ e c ⊗ (y ⊗ x ⊕ e b)
      sorted = simp ring
