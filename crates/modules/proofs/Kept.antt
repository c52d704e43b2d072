-- Those of a list that pass a test, by their number: the k-th kept entry stands at the place of the k-th pass, and the bits that fill
-- the passes stand there in their order. `nth` and `rank` lead from a number to its place and back.
use mathlib.Core.Path.{◌≡◌, refl, sym, ap, subst, ◌∙◌}
use mathlib.Core.Bool.{Bool, true, false, cond}
use mathlib.Core.List.{List, [], ◌∷◌, map}
use Prim.Native.Nat.{ℕ, zero, suc, ◌<◌, ◌≤◌}
use native.Mathlib.Nat.{not-suc-le-zero, le_of_suc-le-suc}
use native.Mathlib.Omega.{arith}
use lib.Dec.{T}
use lib.ListN.{length, get_or}
use Rattle.basics.specs.Lists.{keep}
use Rattle.modules.specs.Modules.{fill}

pub not_both : false ≡ true → ⊥
not_both e = subst T (sym e) tt

-- how many tests pass
abbrev pub count : List Bool → ℕ
count [] = 0
count (true ∷ ts) = suc (count ts)
count (false ∷ ts) = count ts

-- the place of the k-th pass
abbrev pub nth : List Bool → ℕ → ℕ
nth [] k = 0
nth (false ∷ ts) k = suc (nth ts k)
nth (true ∷ ts) zero = 0
nth (true ∷ ts) (suc k) = suc (nth ts k)

-- the passes before place j
abbrev pub rank : List Bool → ℕ → ℕ
rank [] j = 0
rank (t ∷ ts) zero = 0
rank (true ∷ ts) (suc j) = suc (rank ts j)
rank (false ∷ ts) (suc j) = rank ts j

pub nth_lt : (ts : List Bool) (k : ℕ) → k < count ts → nth ts k < length ts
nth_lt [] k h = absurd (not-suc-le-zero h)
nth_lt (false ∷ ts) k h = omega (arith, nth_lt ts k h)
nth_lt (true ∷ ts) zero h = omega arith
nth_lt (true ∷ ts) (suc k) h = omega (arith, nth_lt ts k (le_of_suc-le-suc h))

pub nth_passes : (ts : List Bool) (k : ℕ) → k < count ts → get_or ts (nth ts k) false ≡ true
nth_passes [] k h = absurd (not-suc-le-zero h)
nth_passes (false ∷ ts) k h = nth_passes ts k h
nth_passes (true ∷ ts) zero h = refl
nth_passes (true ∷ ts) (suc k) h = nth_passes ts k (le_of_suc-le-suc h)

pub rank_nth : (ts : List Bool) (k : ℕ) → k < count ts → rank ts (nth ts k) ≡ k
rank_nth [] k h = absurd (not-suc-le-zero h)
rank_nth (false ∷ ts) k h = rank_nth ts k h
rank_nth (true ∷ ts) zero h = refl
rank_nth (true ∷ ts) (suc k) h = ap suc (rank_nth ts k (le_of_suc-le-suc h))

pub rank_lt : (ts : List Bool) (j : ℕ) → get_or ts j false ≡ true → rank ts j < count ts
rank_lt [] j e = absurd (not_both e)
rank_lt (true ∷ ts) zero e = omega arith
rank_lt (false ∷ ts) zero e = absurd (not_both e)
rank_lt (true ∷ ts) (suc j) e = omega (arith, rank_lt ts j e)
rank_lt (false ∷ ts) (suc j) e = rank_lt ts j e

pub nth_rank : (ts : List Bool) (j : ℕ) → get_or ts j false ≡ true → nth ts (rank ts j) ≡ j
nth_rank [] j e = absurd (not_both e)
nth_rank (true ∷ ts) zero e = refl
nth_rank (false ∷ ts) zero e = absurd (not_both e)
nth_rank (true ∷ ts) (suc j) e = ap suc (nth_rank ts j e)
nth_rank (false ∷ ts) (suc j) e = ap suc (nth_rank ts j e)

-- one place more
abbrev pub one_more_kept : Bool → ℕ → ℕ
one_more_kept true n = suc n
one_more_kept false n = n

pub rank_suc : (ts : List Bool) (j : ℕ) → rank ts (suc j) ≡ one_more_kept (get_or ts j false) (rank ts j)
rank_suc [] j = refl
rank_suc (true ∷ []) zero = refl
rank_suc (true ∷ (t ∷ ts)) zero = refl
rank_suc (false ∷ []) zero = refl
rank_suc (false ∷ (t ∷ ts)) zero = refl
rank_suc (true ∷ ts) (suc j) = ap suc (rank_suc ts j) ∙ out (get_or ts j false) (rank ts j)
  where
    out : (t : Bool) (n : ℕ) → suc (one_more_kept t n) ≡ one_more_kept t (suc n)
    out true n = refl
    out false n = refl
rank_suc (false ∷ ts) (suc j) = rank_suc ts j

-- ---- what is kept

length_pick : (t : Bool) (x : ℕ) (xs : List ℕ) (ts : List Bool) → length xs ≡ count ts → length (cond t (x ∷ xs) xs) ≡ count (t ∷ ts)
length_pick true x xs ts e = ap suc e
length_pick false x xs ts e = e

pub length_keep : (f : ℕ → Bool) (xs : List ℕ) → length (keep f xs) ≡ count (map f xs)
unfolding keep
length_keep f [] = refl
length_keep f (x ∷ xs) = length_pick (f x) x (keep f xs) (map f xs) (length_keep f xs)

nth_pick : (t : Bool) (x : ℕ) (xs rest : List ℕ) (ts : List Bool) → ((k : ℕ) → k < count ts → get_or rest k 0 ≡ get_or xs (nth ts k) 0)
    → (k : ℕ) → k < count (t ∷ ts) → get_or (cond t (x ∷ rest) rest) k 0 ≡ get_or (x ∷ xs) (nth (t ∷ ts) k) 0
nth_pick true x xs rest ts e zero h = refl
nth_pick true x xs rest ts e (suc k) h = e k (le_of_suc-le-suc h)
nth_pick false x xs rest ts e k h = e k h

pub keep_nth : (f : ℕ → Bool) (xs : List ℕ) (k : ℕ) → k < count (map f xs) → get_or (keep f xs) k 0 ≡ get_or xs (nth (map f xs) k) 0
unfolding keep
keep_nth f [] k h = absurd (not-suc-le-zero h)
keep_nth f (x ∷ xs) k h = nth_pick (f x) x xs (keep f xs) (map f xs) (keep_nth f xs) k h

-- ---- what fills the passes

pub length_fill : (ts : List Bool) (bs : List ℕ) → length (fill ts bs) ≡ length ts
unfolding fill
length_fill [] bs = refl
length_fill (false ∷ ts) bs = ap suc (length_fill ts bs)
length_fill (true ∷ ts) [] = ap suc (length_fill ts [])
length_fill (true ∷ ts) (b ∷ bs) = ap suc (length_fill ts bs)

pub fill_at : (ts : List Bool) (bs : List ℕ) (j : ℕ) → get_or ts j false ≡ true → get_or (fill ts bs) j 0 ≡ get_or bs (rank ts j) 0
unfolding fill
fill_at [] bs j e = absurd (not_both e)
fill_at (true ∷ ts) [] zero e = refl
fill_at (true ∷ ts) (b ∷ bs) zero e = refl
fill_at (false ∷ ts) bs zero e = absurd (not_both e)
fill_at (true ∷ ts) [] (suc j) e = fill_at ts [] j e
fill_at (true ∷ ts) (b ∷ bs) (suc j) e = fill_at ts bs j e
fill_at (false ∷ ts) bs (suc j) e = fill_at ts bs j e

pub fill_le : (ts : List Bool) (bs : List ℕ) (j : ℕ) → ((k : ℕ) → get_or bs k 0 ≤ 1) → get_or (fill ts bs) j 0 ≤ 1
unfolding fill
fill_le [] bs j h = omega arith
fill_le (false ∷ ts) bs zero h = omega arith
fill_le (false ∷ ts) bs (suc j) h = fill_le ts bs j h
fill_le (true ∷ ts) [] zero h = omega arith
fill_le (true ∷ ts) [] (suc j) h = fill_le ts [] j h
fill_le (true ∷ ts) (b ∷ bs) zero h = h 0
fill_le (true ∷ ts) (b ∷ bs) (suc j) h = fill_le ts bs j (λ k. h (suc k))
