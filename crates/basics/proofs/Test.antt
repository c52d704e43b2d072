-- What holds of each of finitely many numbers, by one test that antt computes. A statement over two or three numbers is tested at each pair or triple.
use mathlib.Core.Path.{◌≡◌, subst⁻¹}
use mathlib.Core.Bool.{Bool, true, false, not}
use mathlib.Core.Logic.{◌≢◌, ◌⊎◌, inl, inr}
use Prim.Native.Nat.{ℕ, zero, suc, ◌+◌, ◌<◌}
use native.Mathlib.Nat.{add-zero, add-suc, suc-add, eq-or-lt_of_le, le_of_suc-le-suc, not-suc-le-zero}
use lib.Dec.{T, T_not, eqb, eqb→eq, eqb_refl}

abbrev pub both : Bool → Bool → Bool
both true b = b
both false b = false

pub both_left : (a b : Bool) → T (both a b) → T a
both_left true b t = tt
both_left false b t = t

pub both_right : (a b : Bool) → T (both a b) → T b
both_right true b t = t
both_right false b t = absurd t

abbrev pub either : Bool → Bool → Bool
either true b = true
either false b = b

pub either_cases : (a b : Bool) → T (either a b) → T a ⊎ T b
either_cases true b t = inl tt
either_cases false b t = inr t

-- the test passes at each number below n
abbrev pub all : ℕ → (ℕ → Bool) → Bool
all zero f = true
all (suc n) f = both (f n) (all n f)

pub at : (n : ℕ) (f : ℕ → Bool) → T (all n f) → (k : ℕ) → k < n → T (f k)
at zero f t k h = absurd (not-suc-le-zero h)
at (suc n) f t k h = pick (at n f (both_right (f n) (all n f) t) k) (eq-or-lt_of_le (le_of_suc-le-suc h))
  where
    pick : (k < n → T (f k)) → (k ≡ n) ⊎ (k < n) → T (f k)
    pick rest (inl e) = subst⁻¹ (λ (m : ℕ). T (f m)) e (both_left (f n) (all n f) t)
    pick rest (inr l) = rest l

-- at each pair of a grid of m by n, and at each triple
pub grid : (m n : ℕ) (f : ℕ → ℕ → Bool) → T (all m (λ i. all n (f i))) → (i j : ℕ) → i < m → j < n → T (f i j)
grid m n f t i j hi = at n (f i) (at m (λ i. all n (f i)) t i hi) j

pub cube : (l m n : ℕ) (f : ℕ → ℕ → ℕ → Bool) → T (all l (λ i. all m (λ j. all n (f i j)))) → (i j k : ℕ) → i < l → j < m → k < n → T (f i j k)
cube l m n f t i j k hi = grid m n (f i) (at l (λ i. all m (λ j. all n (f i j))) t i hi) j k

-- the same where the bounds are one
abbrev pub all_2 : ℕ → (ℕ → ℕ → Bool) → Bool
all_2 n f = all n (λ x. all n (f x))

pub at_2 : (n : ℕ) (f : ℕ → ℕ → Bool) → T (all_2 n f) → (x y : ℕ) → x < n → y < n → T (f x y)
at_2 n = grid n n

abbrev pub all_3 : ℕ → (ℕ → ℕ → ℕ → Bool) → Bool
all_3 n f = all n (λ x. all_2 n (f x))

pub at_3 : (n : ℕ) (f : ℕ → ℕ → ℕ → Bool) → T (all_3 n f) → (x y z : ℕ) → x < n → y < n → z < n → T (f x y z)
at_3 n = cube n n n

-- the test passes at x, f x, f (f x), .., at n numbers in all
abbrev pub along : ℕ → (ℕ → ℕ) → (ℕ → Bool) → ℕ → Bool
along zero f p x = true
along (suc n) f p x = both (p x) (along n f p (f x))

-- a sequence that f steps through, tested with one step for each member
pub walk : (s f : ℕ → ℕ) → ((i : ℕ) → s (suc i) ≡ f (s i)) → (p : ℕ → Bool) (n j : ℕ) → T (along n f p (s j)) → (i : ℕ) → i < n → T (p (s (j + i)))
walk s f h p zero j t i l = absurd (not-suc-le-zero l)
walk s f h p (suc n) j t zero l = rw add-zero (both_left (p (s j)) (along n f p (f (s j))) t)
walk s f h p (suc n) j t (suc i) l =
    rw (add-suc, ← suc-add) (walk s f h p n (suc j) (rw (h j) (both_right (p (s j)) (along n f p (f (s j))) t)) i (le_of_suc-le-suc l))

-- v is not where the test says that it is not
abbrev pub is_not : ℕ → ℕ → Bool
is_not v x = not (eqb x v)

pub is_not_lem : (v x : ℕ) → T (is_not v x) → x ≢ v
is_not_lem v x t e = T_not (eqb x v) t (rw e (eqb_refl v))

-- two functions are the same below n
abbrev pub same : (n : ℕ) (f g : ℕ → ℕ) → Bool
same n f g = all n (λ x. eqb (f x) (g x))

pub same_1 : (n : ℕ) (f g : ℕ → ℕ) → T (same n f g) → (x : ℕ) → x < n → f x ≡ g x
same_1 n f g t x h = eqb→eq (f x) (g x) (at n (λ x. eqb (f x) (g x)) t x h)

pub same_2 : (n : ℕ) (f g : ℕ → ℕ → ℕ) → T (all_2 n (λ x y. eqb (f x y) (g x y))) → (x y : ℕ) → x < n → y < n → f x y ≡ g x y
same_2 n f g t x y hx hy = eqb→eq (f x y) (g x y) (at_2 n (λ x y. eqb (f x y) (g x y)) t x y hx hy)

pub same_3 : (n : ℕ) (f g : ℕ → ℕ → ℕ → ℕ) → T (all_3 n (λ x y z. eqb (f x y z) (g x y z))) → (x y z : ℕ) → x < n → y < n → z < n → f x y z ≡ g x y z
same_3 n f g t x y z hx hy hz = eqb→eq (f x y z) (g x y z) (at_3 n (λ x y z. eqb (f x y z) (g x y z)) t x y z hx hy hz)
