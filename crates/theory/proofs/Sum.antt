-- Finite sums and powers in a field of characteristic 2. A sum takes its last term off first, as a loop that adds up does.
use Prim.Native.Nat.{ℕ, zero, suc}
use Rattle.theory.proofs.Field.{Field}

module _ (K : Field) where
  open K use {F, ◌⊕◌, ◌⊗◌, 𝟘, 𝟙}

  -- f 0 ⊕ … ⊕ f (n - 1)
  unfoldable pub sum : ℕ → (ℕ → F) → F
  sum zero f = 𝟘
  sum (suc n) f = sum n f ⊕ f n

  unfoldable pub pow : F → ℕ → F
  pow x zero = 𝟙
  pow x (suc i) = x ⊗ pow x i
