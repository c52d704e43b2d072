-- Laws of runs of numbers, of lists made from them entry by entry, and of joins.
use mathlib.Core.Path.{◌≡◌, refl, sym, ap, ap₂, ◌∙◌}
use mathlib.Core.List.{List, [], ◌∷◌, ◌++◌, map, append_assoc, append-nil}
use Prim.Native.Nat.{ℕ, zero, suc, ◌+◌, ◌<◌, ◌≤◌}
use native.Mathlib.Nat.{add-zero, add-suc, suc-add, zero-add, not-suc-le-zero, le_of_suc-le-suc}
use native.Mathlib.Omega.{arith}
use lib.ListN.{length, get_or}
use lib.Seq.{ext_get_or}
use Rattle.basics.specs.Lists.{from, up_to, joined, AtMost}
use Rattle.basics.specs.Build.{build}

pub length_from : (a n : ℕ) → length (from a n) ≡ n
unfolding from
length_from a zero = refl
length_from a (suc n) = ap suc (length_from (suc a) n)

pub length_up_to : (n : ℕ) → length (up_to n) ≡ n
unfolding up_to
length_up_to n = length_from 0 n

pub get_d_from : (a n k : ℕ) → k < n → get_or (from a n) k 0 ≡ a + k
unfolding from
get_d_from a zero k h = absurd (not-suc-le-zero h)
get_d_from a (suc n) zero h = sym (add-zero a)
get_d_from a (suc n) (suc k) h = get_d_from (suc a) n k (omega arith) ∙ suc-add a k ∙ sym (add-suc a k)

pub get_d_up_to : (n k : ℕ) → k < n → get_or (up_to n) k 0 ≡ k
unfolding up_to
get_d_up_to n k h = get_d_from 0 n k h ∙ zero-add k

-- one more at the end
pub from_suc : (a n : ℕ) → from a (suc n) ≡ from a n ++ ((a + n) ∷ [])
unfolding from
from_suc a zero = ap (λ (x : ℕ). x ∷ []) (sym (add-zero a))
from_suc a (suc n) = ap (λ (xs : List ℕ). a ∷ xs) (from_suc (suc a) n ∙ ap (λ (x : ℕ). from (suc a) n ++ (x ∷ [])) (suc-add a n ∙ sym (add-suc a n)))

pub up_to_suc : (n : ℕ) → up_to (suc n) ≡ up_to n ++ (n ∷ [])
unfolding up_to
up_to_suc n = from_suc 0 n ∙ ap (λ (x : ℕ). from 0 n ++ (x ∷ [])) (zero-add n)

-- ---- a list given entry by entry

module _ {A : Type 0} where
  pub length_map : {B : Type 0} (f : B → A) (xs : List B) → length (map f xs) ≡ length xs
  length_map f [] = refl
  length_map f (x ∷ xs) = ap suc (length_map f xs)

  pub map_append : {B : Type 0} (f : B → A) (xs ys : List B) → map f (xs ++ ys) ≡ map f xs ++ map f ys
  map_append f [] ys = refl
  map_append f (x ∷ xs) ys = ap (λ (zs : List A). f x ∷ zs) (map_append f xs ys)

  pub get_d_map : {B : Type 0} (f : B → A) (xs : List B) (k : ℕ) (b : B) (d : A) → k < length xs → get_or (map f xs) k d ≡ f (get_or xs k b)
  get_d_map f [] k b d h = absurd (not-suc-le-zero h)
  get_d_map f (x ∷ xs) zero b d h = refl
  get_d_map f (x ∷ xs) (suc k) b d h = get_d_map f xs k b d (le_of_suc-le-suc h)

  pub length_map_up_to : (f : ℕ → A) (n : ℕ) → length (map f (up_to n)) ≡ n
  length_map_up_to f n = length_map f (up_to n) ∙ length_up_to n

  pub get_d_map_up_to : (f : ℕ → A) (n k : ℕ) (d : A) → k < n → get_or (map f (up_to n)) k d ≡ f k
  get_d_map_up_to f n k d h = get_d_map f (up_to n) k 0 d (rw length_up_to h) ∙ ap f (get_d_up_to n k h)

  pub map_from_same : (f g : ℕ → A) (a n : ℕ) → ((k : ℕ) → a ≤ k → k < a + n → f k ≡ g k) → map f (from a n) ≡ map g (from a n)
  unfolding from
  map_from_same f g a zero h = refl
  map_from_same f g a (suc n) h = ap₂ ◌∷◌ (h a (omega arith) (omega arith)) (map_from_same f g (suc a) n (λ k l m. h k (omega arith) (omega arith)))

  pub map_up_to_same : (f g : ℕ → A) (n : ℕ) → ((k : ℕ) → k < n → f k ≡ g k) → map f (up_to n) ≡ map g (up_to n)
  unfolding up_to
  map_up_to_same f g n h = map_from_same f g 0 n (λ k l m. h k (omega arith))

  pub map_up_to_suc : (f : ℕ → A) (n : ℕ) → map f (up_to (suc n)) ≡ map f (up_to n) ++ (f n ∷ [])
  map_up_to_suc f n = rw (up_to_suc n) (map_append f (up_to n) (n ∷ []))

-- what a loop builds
pub build_up_to : (f : ℕ → ℕ) (n : ℕ) → build f n ≡ map f (up_to n)
unfolding build up_to from
build_up_to f zero = refl
build_up_to f (suc n) = rw (map_up_to_suc f n, build_up_to f n)

-- a list is what its entries are
pub list_up_to : (xs : List ℕ) → map (λ k. get_or xs k 0) (up_to (length xs)) ≡ xs
list_up_to xs =
    ext_get_or 0 _ xs (length_map_up_to (λ k. get_or xs k 0) (length xs))
    (λ k h. get_d_map_up_to (λ k. get_or xs k 0) (length xs) k 0 (rw (length_map_up_to (λ k. get_or xs k 0) (length xs)) at h))

-- ---- joins

module _ {A : Type 0} where
  pub joined_append : (xs ys : List (List A)) → joined (xs ++ ys) ≡ joined xs ++ joined ys
  unfolding joined
  joined_append [] ys = refl
  joined_append (x ∷ xs) ys = ap (λ (zs : List A). x ++ zs) (joined_append xs ys) ∙ sym (append_assoc x (joined xs) (joined ys))

  pub joined_one : (xs : List A) → joined (xs ∷ []) ≡ xs
  unfolding joined
  joined_one xs = append-nil xs

-- ---- bounds

pub at_most_cons : (n x : ℕ) (xs : List ℕ) → x ≤ n → AtMost n xs → AtMost n (x ∷ xs)
at_most_cons n x xs hx h zero l = hx
at_most_cons n x xs hx h (suc i) l = h i (le_of_suc-le-suc l)

pub at_most_append : (n : ℕ) (xs ys : List ℕ) → AtMost n xs → AtMost n ys → AtMost n (xs ++ ys)
at_most_append n [] ys hx hy = hy
at_most_append n (x ∷ xs) ys hx hy = at_most_cons n x (xs ++ ys) (hx 0 (omega arith)) (at_most_append n xs ys (λ k l. hx (suc k) (omega arith)) hy)
