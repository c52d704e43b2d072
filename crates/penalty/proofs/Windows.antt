-- The windows of a line: the first and those after it; a line too short for a window adds nothing.
use mathlib.Core.Path.{◌≡◌, refl, sym, ap, ap₂, ◌∙◌}
use mathlib.Core.Bool.{Bool, true, false, cond, ◌&&◌}
use mathlib.Core.List.{List, [], ◌∷◌}
use Prim.Native.Nat.{ℕ, ◌+◌, ◌-◌, ◌*◌, ◌<◌, ◌≤◌}
use native.Mathlib.Nat.{not-suc-le-zero, le_of_suc-le-suc, zero-add}
use native.Mathlib.Decide.{dec_lt}
use native.Mathlib.Omega.{arith}
use lib.Dec.{eqb}
use lib.ListN.{length, get_or, take, length-take}
use Rattle.basics.specs.Sums.{one}
use Rattle.basics.specs.Lists.{same}
use Rattle.penalty.specs.Penalty.{patterns, finder_like, windows}
use Rattle.penalty.specs.Lines.{line}
use Rattle.penalty.proofs.Lines.{line_cons, take_line}

pub and_false : (a : Bool) → a && false ≡ false
and_false true = refl
and_false false = refl

-- lists of different lengths are not the same
pub short_other : (xs ys : List ℕ) → length xs < length ys → same xs ys ≡ false
unfolding same
short_other xs [] h = absurd (not-suc-le-zero h)
short_other [] (y ∷ ys) h = refl
short_other (x ∷ xs) (y ∷ ys) h = rw (short_other xs ys (le_of_suc-le-suc h)) (and_false (eqb x y))

pub short_unlike : (w : List ℕ) → length w < 11 → finder_like w ≡ false
unfolding finder_like patterns
short_unlike w h = rw (short_other w (get_or patterns 0 []) h, short_other w (get_or patterns 1 []) h)

pub short_windows : (xs : List ℕ) → length xs < 11 → windows xs ≡ 0
unfolding windows
short_windows [] h = refl
short_windows (x ∷ xs) h =
    let short : length (take 11 (x ∷ xs)) < 11 = rw length-take (omega arith) in
    rw (short_unlike (take 11 (x ∷ xs)) short) (zero-add (windows xs) ∙ short_windows xs (omega arith))

forty : (b : Bool) → cond b 40 0 ≤ 40
forty true = omega arith
forty false = omega arith

pub windows_le : (xs : List ℕ) → windows xs ≤ 40 * (length xs - 10)
unfolding windows
windows_le [] = omega arith
windows_le (x ∷ xs) = by_length (dec_lt (length (x ∷ xs)) 11) (windows_le xs)
  where
    by_length : Dec (length (x ∷ xs) < 11) → windows xs ≤ 40 * (length xs - 10) → windows (x ∷ xs) ≤ 40 * (length (x ∷ xs) - 10)
    by_length (yes h) e = rw (short_windows (x ∷ xs) h) (omega arith)
    by_length (no h) e = omega (arith, forty (finder_like (take 11 (x ∷ xs))))

-- a line's first window, and those after it
pub windows_line : (m : List ℕ) (start stride n : ℕ) → 11 ≤ n
    → windows (line m start stride n) ≡ 40 * one (finder_like (line m start stride 11)) + windows (line m (start + stride) stride (n - 1))
unfolding windows
windows_line m start stride n h =
    let e = line_cons m start stride n (omega arith) in
    rw e (ap₂ ◌+◌ (ap (λ (w : List ℕ). cond (finder_like w) 40 0) (ap (take 11) (sym e) ∙ take_line m start stride n 11 h) ∙ times (finder_like (line m start stride 11))) refl)
  where
    times : (b : Bool) → cond b 40 0 ≡ 40 * one b
    times true = refl
    times false = refl
