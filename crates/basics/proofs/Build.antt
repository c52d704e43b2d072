-- A loop that fills a list from the front, one store a turn: what is written is `build f i`.
--     build_more    a store of f i at i takes the first i entries to the first i + 1
--     build_all     a list of n entries whose first n are built is built
--     build_get     an entry of what is built
use mathlib.Core.Path.{◌≡◌, refl, sym, ap, ◌∙◌}
use mathlib.Core.Logic.{⊎_elim}
use mathlib.Core.List.{List, [], ◌∷◌, ◌++◌}
use Prim.Native.Nat.{ℕ, zero, suc, ◌+◌, ◌<◌}
use native.Mathlib.Nat.{le_of_suc-le-suc, not-suc-le-zero, eq-or-lt_of_le}
use native.Mathlib.Numerals.{add-one}
use native.Mathlib.Omega.{arith}
use lib.ListN.{length, take, drop, get_or, set, length-append, take-append-drop, get_or-append}
use lib.Seq.{take-suc, take-suc-set, take_all, take-length, drop-set-lt, drop-drop, get_or_at}
use Rattle.basics.specs.Build.{build}

pub build_more : (f : ℕ → ℕ) (l : List ℕ) (i : ℕ) → take i l ≡ build f i → i < length l → take (i + 1) (set l i (f i)) ≡ build f (i + 1)
unfolding build
build_more f l i e h = rw (add-one, take-suc-set, e)

-- the same where what is stored is shown to be f i
pub build_put : (f : ℕ → ℕ) (l : List ℕ) (i v : ℕ) → take i l ≡ build f i → i < length l → v ≡ f i → take (i + 1) (set l i v) ≡ build f (i + 1)
unfolding build
build_put f l i v e h q = rw (q, add-one, take-suc-set, e)

pub build_all : (f : ℕ → ℕ) (l : List ℕ) (n : ℕ) → length l ≡ n → take n l ≡ build f n → l ≡ build f n
build_all f l n h e = sym (take_all n l (omega arith)) ∙ e

pub build_length : (f : ℕ → ℕ) (n : ℕ) → length (build f n) ≡ n
unfolding build
build_length f zero = refl
build_length f (suc n) = length-append (build f n) (f n ∷ []) ∙ rw (build_length f n) (add-one n)

pub build_get : (f : ℕ → ℕ) (n k : ℕ) → k < n → get_or (build f n) k 0 ≡ f k
unfolding build
build_get f zero k h = absurd (not-suc-le-zero h)
build_get f (suc n) k h =
    ⊎_elim (λ e. rw e (get_or_at (build f n) (f n) [] 0 n (build_length f n)))
    (λ l. get_or-append (build f n) (f n ∷ []) 0 k (rw build_length l) ∙ build_get f n k l)
    (eq-or-lt_of_le (le_of_suc-le-suc h))

-- A loop that copies s over the front of out₀, one store a turn: the first i entries are s's, the rest out₀'s.
pub copy_more : (s out out₀ : List ℕ) (i : ℕ) → take i out ≡ take i s → drop i out ≡ drop i out₀ → i < length s → i < length out
    → (take (i + 1) (set out i (get_or s i 0)) ≡ take (i + 1) s) × (drop (i + 1) (set out i (get_or s i 0)) ≡ drop (i + 1) out₀)
copy_more s out out₀ i t d hs ho = (
  rw (add-one, take-suc-set, take-suc s i 0, t),
  drop-set-lt (i + 1) out i (get_or s i 0) (omega arith) ∙ sym (drop-drop 1 i out) ∙ ap (drop 1) d ∙ drop-drop 1 i out₀,
)

pub copy_all : (s out out₀ : List ℕ) (i : ℕ) → take i out ≡ take i s → drop i out ≡ drop i out₀ → i ≡ length s → out ≡ s ++ drop (length s) out₀
copy_all s out out₀ i t d e =
    sym (take-append-drop i out) ∙ rw (t, d, e, take-length s)
