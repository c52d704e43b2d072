-- How much each part of the score adds at the most, and so the whole: at side 57 no more than 230098.
-- A line of n modules adds at most n − 2 by its runs and 40 by each of its n − 10 windows, a square 3, the dark share 100.
use mathlib.Core.List.{List, [], ◌∷◌}
use Prim.Native.Nat.{ℕ, zero, suc, ◌+◌, ◌-◌, ◌*◌, ◌≤◌}
use native.Mathlib.Nat.{suc-mul, mul-le-mul, le_refl, le_trans, div-le_of_le-mul}
use native.Mathlib.Omega.{arith}
use lib.Dec.{eqb}
use lib.ListN.{length}
use Rattle.basics.specs.Sums.{sum, apart}
use Rattle.basics.proofs.Sums.{one_le}
use Rattle.penalty.specs.Penalty.{rows, columns, lines, squares, dark, share, score}
use Rattle.penalty.specs.Lines.{line, lines_from, squares_from}
use Rattle.penalty.specs.Promise.{ScoreBound}
use Rattle.penalty.proofs.Lines.{length_line, rows_lines, columns_lines}
use Rattle.penalty.proofs.Runs.{runs_le}
use Rattle.penalty.proofs.Squares.{squares_from_le, squares_rows}
use Rattle.penalty.proofs.Windows.{windows_le}

pub lines_le : (m : List ℕ) (start step stride n k : ℕ) → lines (lines_from m start step stride n k) ≤ k * (n - 2 + 40 * (n - 10))
unfolding lines lines_from
lines_le m start step stride n zero = omega arith
lines_le m start step stride n (suc k) =
    let e = length_line m start stride n in
    let r = runs_le (line m start stride n) in
    let w = windows_le (line m start stride n) in
    rw suc-mul (omega (arith, lines_le m (start + step) step stride n k))

pub lines_small : (m : List ℕ) (start step stride s : ℕ) → s ≤ 57 → lines (lines_from m start step stride s s) ≤ 110295
lines_small m start step stride s h =
    let each : s - 2 + 40 * (s - 10) ≤ 1935 = omega arith in
    le_trans (lines_le m start step stride s s) (mul-le-mul h each)

pub sum_bound : (n : ℕ) (f : ℕ → ℕ) (b : ℕ) → ((k : ℕ) → f k ≤ b) → sum n f ≤ n * b
unfolding sum
sum_bound zero f b h = omega arith
sum_bound (suc n) f b h = rw suc-mul (omega (arith, sum_bound n f b h, h n))

pub squares_small : (m : List ℕ) (s : ℕ) → s ≤ 57 → squares s (rows s m) ≤ 9408
squares_small m s h =
    let each : 3 * (s - 1) ≤ 168 = omega arith in
    let most : s - 1 ≤ 56 = omega arith in
    rw (squares_rows s m)
    (le_trans (sum_bound (s - 1) (λ i. squares_from s m (i * s) (s - 1)) (3 * (s - 1)) (λ i. squares_from_le s m (i * s) (s - 1))) (mul-le-mul most each))

pub dark_le : (m : List ℕ) → dark m ≤ length m
unfolding dark
dark_le [] = omega arith
dark_le (x ∷ xs) = omega (arith, one_le (eqb x 1), dark_le xs)

pub share_le : (s k : ℕ) → k ≤ s * s → share s k ≤ 100
unfolding share
share_le s k h =
    let few : apart (20 * k) (10 * (s * s)) ≤ s * s * 10 = omega arith in
    omega (arith, div-le_of_le-mul (s * s) few)

-- "The score never exceeds 230098 at side 57"
pub score_bound : ScoreBound
unfolding score
score_bound m e h =
    let d : dark m ≤ 57 * 57 = omega (arith, dark_le m) in
    let r : lines (rows 57 m) ≤ 110295 = rw (rows_lines 57 m e) (lines_small m 0 57 1 57 (le_refl 57)) in
    let c : lines (columns 57 (rows 57 m)) ≤ 110295 = rw (columns_lines 57 m e) (lines_small m 0 1 57 57 (le_refl 57)) in
    omega (arith, r, c, squares_small m 57 (le_refl 57), share_le 57 (dark m) d)
