-- Rows moved up and down.
use mathlib.Core.Path.{◌≡◌, refl, sym, ap, ◌∙◌}
use mathlib.Core.Logic.{by_cases}
use mathlib.Core.List.{List, ◌++◌}
use Prim.Native.Nat.{ℕ, zero, suc, ◌+◌, ◌-◌, ◌≤◌, ◌<◌}
use native.Mathlib.Nat.{sub-zero, suc-sub-suc}
use native.Mathlib.Decide.{dec_lt}
use native.Mathlib.Omega.{arith}
use lib.ListN.{length, get_or, take, drop, replicate, length-append, get_or-append, get_or-eq_default}
use Rattle.std.proofs.lemmas.List.{drop-replicate, length-replicate, length-drop, get_or-drop, get_or-append_right}
use borrow.Rule.Slice.PartMut.{put_mid}
use lib.Seq.{ext_get_or, get_or-take, length-take-le, take_all}
use Rattle.basics.specs.Build.{build}
use Rattle.basics.proofs.Build.{build_get, build_length}
use Rattle.corrector.specs.Lanes.{late, lowered, raised}

zeros_at : (n k : ℕ) → get_or {A = ℕ} (replicate n 0) k 0 ≡ 0
zeros_at zero k = refl
zeros_at (suc n) zero = refl
zeros_at (suc n) (suc k) = zeros_at n k

pub late_low : (k h : ℕ) (f : ℕ → ℕ) → h < k → 0 ≡ late k f h
unfolding late
late_low zero h f l = absurd (omega arith)
late_low (suc k) zero f l = refl
late_low (suc k) (suc h) f l = late_low k h f (omega arith)

pub late_high : (k h : ℕ) (f : ℕ → ℕ) → k ≤ h → f (h - k) ≡ late k f h
unfolding late
late_high zero h f l = ap f (sub-zero h)
late_high (suc k) zero f l = absurd (omega arith)
late_high (suc k) (suc h) f l = ap f (suc-sub-suc h k) ∙ late_high k h f (omega arith)

pub late_lt : (k h : ℕ) (f : ℕ → ℕ) → ((x : ℕ) → f x < 256) → late k f h < 256
unfolding late
late_lt zero h f b = b h
late_lt (suc k) zero f b = omega arith
late_lt (suc k) (suc h) f b = late_lt k h f b

-- what is left of a row from i on, and zeros behind it
pub lowered_made : (a r : List ℕ) (i : ℕ) → length a ≡ 32 → i ≤ 32 → r ≡ take (32 - i) (drop i a) → r ++ drop (32 - i) (replicate 32 0) ≡ lowered a i
unfolding lowered
lowered_made a r i la l e =
    rw (e, take_all (32 - i) (drop i a) (omega (arith, left)), drop-replicate {X = ℕ} (32 - i) 32 0)
    (ext_get_or 0 _ _ long
    (λ x h.
    by_cases
    (dec_lt (i + x) 32)
    (λ m. get_or-append (drop i a) _ 0 x (omega (arith, left)) ∙ get_or-drop i a x 0)
    (λ m. get_or-append_right (drop i a) (replicate (32 - (32 - i)) 0) (32 - i) x 0 left (omega arith) ∙ zeros_at (32 - (32 - i)) (x - (32 - i)) ∙ sym (get_or-eq_default a 0 {n = i + x} (omega arith)))
    ∙ sym (build_get _ 32 x (omega (arith, h, long, build_length (λ k. get_or a (i + k) 0) 32)))))
  where
    left : length (drop i a) ≡ 32 - i
    left = rw (length-drop, la)

    long : length (drop i a ++ replicate {A = ℕ} (32 - (32 - i)) 0) ≡ length (build (λ k. get_or a (i + k) 0) 32)
    long = rw (length-append, left, length-replicate, build_length) (omega arith)

-- k zeros, and the front of a row behind them
pub raised_made : (a r : List ℕ) (k : ℕ) → length a ≡ 32 → k ≤ 32 → r ≡ take (32 - k) a → put_mid k (32 - k) (replicate 32 0) r ≡ raised a k
unfolding raised
raised_made a r k la l e =
    ext_get_or 0 _ _ long
    (λ x h.
    by_cases
    (dec_lt x k)
    (λ m. get_or-append (take k (replicate 32 0)) _ 0 x (omega (arith, left)) ∙ get_or-take k (replicate 32 0) x 0 m ∙ zeros_at 32 x ∙ late_low k x (λ x. get_or a x 0) m)
    (λ m.
    get_or-append_right (take k (replicate 32 0)) _ k x 0 left (omega arith)
    ∙ get_or-append r _ 0 (x - k) (omega (arith, h, long, right, build_length (late k (λ x. get_or a x 0)) 32))
    ∙ ap (λ t. get_or t (x - k) 0) e
    ∙ get_or-take (32 - k) a (x - k) 0 (omega (arith, h, long, build_length (late k (λ x. get_or a x 0)) 32))
    ∙ late_high k x (λ x. get_or a x 0) (omega arith))
    ∙ sym (build_get _ 32 x (omega (arith, h, long, build_length (late k (λ x. get_or a x 0)) 32))))
  where
    left : length (take {A = ℕ} k (replicate 32 0)) ≡ k
    left = length-take-le k (replicate 32 0) l

    right : length r ≡ 32 - k
    right = ap length e ∙ length-take-le (32 - k) a (omega (arith, la))

    long : length (put_mid k (32 - k) (replicate 32 0) r) ≡ length (build (late k (λ x. get_or a x 0)) 32)
    long = rw (length-append, left, length-append, right, build_length, length-drop (32 - k) _, length-drop k _) (omega arith)
