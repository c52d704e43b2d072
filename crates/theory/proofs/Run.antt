-- The state of a Berlekamp-Massey run. A polynomial is the function of its coefficients, lowest first, and n is more than any degree that occurs.
-- It acts on a sequence by shifts: the sequence satisfies the recurrence of A where `act n A s` is 0.
use mathlib.Core.Path.{◌≡◌}
use mathlib.Core.Logic.{◌≢◌}
use mathlib.Core.List.{List, [], ◌∷◌}
use Prim.Native.Nat.{ℕ, zero, suc, ◌+◌, ◌≤◌, ◌<◌}
use Rattle.theory.proofs.Field.{Field}
use Rattle.theory.proofs.Sum.{sum, pow}

module _ (K : Field) where
  open K use {F, ◌⊕◌, ◌⊗◌, 𝟘, 𝟙}

  unfoldable pub act : ℕ → (ℕ → F) → (ℕ → F) → ℕ → F
  act n A s i = sum K n (λ k. A k ⊗ s (i + k))

  unfoldable pub eval : ℕ → (ℕ → F) → F → F
  eval n A x = sum K n (λ k. A k ⊗ pow K x k)

  -- R are places below b whose locators are roots of A, the greatest first
  abbrev pub Roots : ℕ → (X A : ℕ → F) → ℕ → List ℕ → Type 0
  Roots n X A b [] = Unit {0}
  Roots n X A b (u ∷ R) = (u < b) × (eval n A (X u) ≡ 𝟘) × Roots n X A u R

  -- the places below N whose locators are roots of A, the greatest first
  unfoldable pub roots : ℕ → (X A : ℕ → F) → ℕ → List ℕ
  roots n X A zero = []
  roots n X A (suc j) = elim (K.equal (eval n A (X j)) 𝟘) [ yes e ↦ j ∷ roots n X A j | no e ↦ roots n X A j ]

  -- A has at most m coefficients
  abbrev pub Below : ℕ → (ℕ → F) → Type 0
  Below m A = (k : ℕ) → m ≤ k → A k ≡ 𝟘

  -- A has degree L and leading coefficient 1
  pub record Monic (L : ℕ) (A : ℕ → F) : Type 0 where
    pub lead : A L ≡ 𝟙
    pub below : Below (suc L) A

  unfoldable pub one : ℕ → F
  one zero = 𝟙
  one (suc k) = 𝟘

  -- A times the d-th power of the variable
  unfoldable pub shift : ℕ → (ℕ → F) → ℕ → F
  shift zero A k = A k
  shift (suc d) A zero = 𝟘
  shift (suc d) A (suc k) = shift d A k

  -- A moved up by j places, and q times B moved up by k places
  unfoldable pub mix : (j k : ℕ) → F → (A B : ℕ → F) → ℕ → F
  mix j k q A B h = shift j A h ⊕ q ⊗ shift k B h

  -- After i + L values of s: A, of degree L, is 0 on each of their i windows; B is what A was before it last grew to degree L, which is b where it failed.
  pub record Run (n : ℕ) (s : ℕ → F) (i L : ℕ) (A B : ℕ → F) (b : F) : Type 0 where
    pub monic : Monic L A
    pub zeros : (h : ℕ) → h < i → act n A s h ≡ 𝟘
    pub below : Below (suc i) B
    pub zeros' : (h : ℕ) → suc h < L → act n B s h ≡ 𝟘
    pub last : (h : ℕ) → suc h ≡ L → act n B s h ≡ b
    pub nonzero : b ≢ 𝟘
    -- no monic polynomial of a smaller degree is 0 on each window of the values so far
    pub least : (t : ℕ) (C : ℕ → F) → t < n → Monic t C → ((h : ℕ) → h + t < i + L → act n C s h ≡ 𝟘) → L ≤ t
