-- What holds of some number below a bound, or of some word of bytes, or of none: each is tried, in the logic alone.
use mathlib.Core.Path.{◌≡◌, refl, ap, subst}
use mathlib.Core.Logic.{◌⊎◌, inl, inr, by_cases}
use mathlib.Core.List.{List, [], ◌∷◌}
use Prim.Native.Nat.{ℕ, zero, suc, ◌<◌}
use native.Mathlib.Decide.{ℕ_discrete}
use native.Mathlib.Omega.{arith}
use lib.ListN.{length, get_or}

pub negated : {A : Type 0} → Dec A → Dec (A → ⊥)
negated (yes a) = no (λ n. n a)
negated (no n) = yes n

-- some number below n, or none
abbrev pub SomeOrNone : (n : ℕ) (P : ℕ → Type 0) → Type 0
SomeOrNone n P = ((k : ℕ) × (k < n) × P k) ⊎ ((k : ℕ) → k < n → P k → ⊥)

pub search : (n : ℕ) (P : ℕ → Type 0) → ((k : ℕ) → Dec (P k)) → SomeOrNone n P
search zero P d = inr (λ k h p. omega arith)
search (suc n) P d = by (d n) (search n P d)
  where
    by : Dec (P n) → SomeOrNone n P → SomeOrNone (suc n) P
    by (yes p) s = inl (n, omega arith, p)
    by (no q) (inl s) = inl (s.0, omega (arith, s.1), s.2)
    by (no q) (inr s) = inr (λ k h p. by_cases (ℕ_discrete k n) (λ (e : k ≡ n). q (subst P e p)) (λ e. s k (omega arith) p))

-- one of the two, where the number itself is not asked for
pub told : (n : ℕ) (P : ℕ → Type 0) → SomeOrNone n P → Dec ((k : ℕ) × (k < n) × P k)
told n P (inl s) = yes s
told n P (inr none) = no (λ s. none s.0 s.1 s.2)

-- every number below n
pub every : (n : ℕ) (P : ℕ → Type 0) → ((k : ℕ) → Dec (P k)) → Dec ((k : ℕ) → k < n → P k)
every n P d = by (search n (λ k. P k → ⊥) (λ k. negated (d k)))
  where
    by : SomeOrNone n (λ k. P k → ⊥) → Dec ((k : ℕ) → k < n → P k)
    by (inl s) = no (λ f. s.2 (f s.0 s.1))
    by (inr s) = yes (λ k h. by_cases (d k) (λ p. p) (λ q. absurd (s k h q)))

-- ---- words

abbrev pub Bytes : List ℕ → Type 0
Bytes c = (j : ℕ) → j < length c → get_or c j 0 < 256

bytes_cons : (x : ℕ) (c : List ℕ) → x < 256 → Bytes c → Bytes (x ∷ c)
bytes_cons x c h b zero l = h
bytes_cons x c h b (suc j) l = b j (omega arith)

empty : (c : List ℕ) → length c ≡ 0 → c ≡ []
empty [] l = refl
empty (x ∷ c) l = absurd (omega arith)

-- some word of n bytes
pub search_words : (n : ℕ) (P : List ℕ → Type 0) → ((c : List ℕ) → Dec (P c)) → Dec ((c : List ℕ) × (length c ≡ n) × Bytes c × P c)
search_words zero P d = by (d [])
  where
    by : Dec (P []) → Dec ((c : List ℕ) × (length c ≡ 0) × Bytes c × P c)
    by (yes p) = yes ([], refl, (λ j h. absurd (omega arith)), p)
    by (no q) = no (λ s. q (subst P (empty s.0 s.1) s.3))
search_words (suc n) P d = by (search 256 (λ x. (c : List ℕ) × (length c ≡ n) × Bytes c × P (x ∷ c)) (λ x. search_words n (λ c. P (x ∷ c)) (λ c. d (x ∷ c))))
  where
    Behind : ℕ → Type 0
    Behind x = (c : List ℕ) × (length c ≡ n) × Bytes c × P (x ∷ c)

    split : ((x : ℕ) → x < 256 → Behind x → ⊥) → (c : List ℕ) → length c ≡ suc n → Bytes c → P c → ⊥
    split none [] l b p = omega arith
    split none (x ∷ c) l b p = none x (b 0 (omega arith)) (c, omega arith, (λ j h. b (suc j) (omega arith)), p)

    by : SomeOrNone 256 Behind → Dec ((c : List ℕ) × (length c ≡ suc n) × Bytes c × P c)
    by (inl (x, h, (c, l, b, p))) = yes (x ∷ c, ap suc l, bytes_cons x c h b, p)
    by (inr none) = no (λ s. split none s.0 s.1 s.2 s.3)
