-- Loops over a fixed number of coefficients.
--     fill_none, fill_more, fill_all   a buffer of zeros that is filled from the front
--     build_same                       two lists that are built of equal entries
--     rooted_first, rooted_later       a coefficient of a product with (x − a), by cases
--     build_zero                       a list that is built, and a 0 behind it
--     cut_padded                       a list that is built, cut after the first n entries and filled up with zeros
use mathlib.Core.Path.{◌≡◌, refl, sym, ap₂, ◌∙◌}
use mathlib.Core.List.{List, [], ◌∷◌, ◌++◌, append-nil}
use Prim.Native.Nat.{ℕ, zero, suc, ◌+◌, ◌-◌, ◌<◌, ◌≤◌}
use native.Mathlib.Nat.{sub-zero}
use native.Mathlib.Numerals.{add-one}
use native.Mathlib.Omega.{arith}
use lib.ListN.{take, drop, set, replicate, length-drop}
use lib.Seq.{set_at, append_snoc, ext_get_or, length-take-le, get_or-take}
use Rattle.std.proofs.lemmas.List.{drop_all}
use Rattle.basics.specs.Build.{build}
use Rattle.basics.proofs.Build.{build_get, build_length}
use borrow.Rule.Slice.PartMut.{put_mid}
use Rattle.field.specs.Field.{mul_n}
use Rattle.std.specs.Int.Bits.{bit_xor}
use Rattle.std.specs.Prelude.{get_or}
use Rattle.code.specs.Lanes.{padded, rooted}

pub build_same : (f g : ℕ → ℕ) (n : ℕ) → ((k : ℕ) → k < n → f k ≡ g k) → build f n ≡ build g n
unfolding build
build_same f g zero h = refl
build_same f g (suc n) h = ap₂ (λ (l : List ℕ) (x : ℕ). l ++ (x ∷ [])) (build_same f g n (λ k l. h k (omega arith))) (h n (omega arith))

-- the first k of m entries are f's, the others 0
unfoldable pub fill : (f : ℕ → ℕ) (m k : ℕ) → List ℕ
fill f m k = build f k ++ replicate (m - k) 0

pub fill_none : (f : ℕ → ℕ) (m : ℕ) → replicate m 0 ≡ fill f m 0
unfolding fill build
fill_none f m = rw sub-zero

pub fill_more : (f : ℕ → ℕ) (m k v : ℕ) (l : List ℕ) → l ≡ fill f m k → k < m → v ≡ f k → set l k v ≡ fill f m (k + 1)
unfolding fill build
fill_more f m k v l e h q =
    let more : m - k ≡ suc (m - (k + 1)) = omega arith in
    rw (e, more, q, add-one) (set_at (build f k) 0 (replicate (m - suc k) 0) (f k) k (build_length f k) ∙ sym (append_snoc (build f k) (f k) (replicate (m - suc k) 0)))

pub fill_all : (f : ℕ → ℕ) (m k : ℕ) (l : List ℕ) → l ≡ fill f m k → k ≡ m → l ≡ build f m
unfolding fill
fill_all f m k l e h =
    let none : m - m ≡ 0 = omega arith in
    e ∙ rw (h, none) (append-nil (build f m))

pub take_build : (f : ℕ → ℕ) (n m : ℕ) → n ≤ m → take n (build f m) ≡ build f n
take_build f n m h =
    ext_get_or 0 (take n (build f m)) (build f n)
    (length-take-le n (build f m) (rw build_length h) ∙ sym (build_length f n))
    (λ i l.
    let below : i < n = omega (arith, length-take-le n (build f m) (rw build_length h)) in
    get_or-take n (build f m) i 0 below ∙ build_get f m i (omega arith) ∙ sym (build_get f n i below))

pub cut_padded : (f : ℕ → ℕ) (n m : ℕ) (all zeros : List ℕ) → n ≤ m → all ≡ build f m → zeros ≡ replicate (m - n) 0
    → put_mid n (m - n) all zeros ≡ padded m (build f n)
unfolding padded
cut_padded f n m all zeros h e z =
    let past : drop (m - n) (drop n (build f m)) ≡ [] = drop_all (m - n) (drop n (build f m)) (simp (length-drop, build_length) (omega arith)) in
    rw (e, z, take_build f n m h, build_length f n, past, append-nil (replicate {A = ℕ} (m - n) 0))

-- the coefficients of a product with (x − a), by cases
pub rooted_first : (g : List ℕ) (a k : ℕ) → k ≡ 0 → rooted g a k ≡ get_or g 0 0
unfolding rooted
rooted_first g a zero h = refl
rooted_first g a (suc k) h = absurd (omega arith)

pub rooted_later : (g : List ℕ) (a k : ℕ) → 0 < k → rooted g a k ≡ bit_xor (get_or g k 0) (mul_n a (get_or g (k - 1) 0))
unfolding rooted
rooted_later g a zero h = absurd (omega arith)
rooted_later g a (suc k) h = let e : suc k - 1 ≡ k = omega arith in rw e

-- a list that is built, and a 0 behind it
pub build_zero : (h f : ℕ → ℕ) (n : ℕ) → ((k : ℕ) → k < n → h k ≡ f k) → h n ≡ 0 → build h (suc n) ≡ build f n ++ replicate 1 0
unfolding build
build_zero h f n same last = ap₂ (λ (l : List ℕ) (x : ℕ). l ++ (x ∷ [])) (build_same h f n same) last
