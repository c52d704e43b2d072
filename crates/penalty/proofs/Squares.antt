-- The squares, row by row, and how much they add at the most.
use mathlib.Core.Path.{◌≡◌, ◌∙◌}
use mathlib.Core.Bool.{◌&&◌}
use mathlib.Core.List.{List, []}
use Prim.Native.Nat.{ℕ, zero, suc, ◌+◌, ◌-◌, ◌*◌, ◌<◌, ◌≤◌}
use native.Mathlib.Nat.{suc-mul}
use native.Mathlib.Numerals.{add-one}
use native.Mathlib.Omega.{arith}
use lib.Dec.{eqb}
use lib.ListN.{get_or, take, drop}
use lib.Seq.{get_or-take, get_or-drop}
use Rattle.basics.specs.Sums.{sum}
use Rattle.basics.proofs.Lists.{get_d_map_up_to}
use Rattle.basics.proofs.Sums.{sum_same, one_le}
use Rattle.penalty.specs.Penalty.{rows, squares, at}
use Rattle.penalty.specs.Lines.{square, squares_from}

pub square_le : (a b c d : ℕ) → square a b c d ≤ 3
unfolding square
square_le a b c d = omega (arith, one_le (eqb a b && eqb a c && eqb a d))

pub squares_from_le : (s : ℕ) (m : List ℕ) (start n : ℕ) → squares_from s m start n ≤ 3 * n
unfolding squares_from sum
squares_from_le s m start zero = omega arith
squares_from_le s m start (suc n) =
    omega (arith, squares_from_le s m start n, square_le (get_or m (start + n) 0) (get_or m (start + n + 1) 0) (get_or m (start + s + n) 0) (get_or m (start + s + n + 1) 0))

-- a module by its row and column
pub at_rows : (s : ℕ) (m : List ℕ) (i j : ℕ) → i < s → j < s → at (rows s m) i j ≡ get_or m (i * s + j) 0
unfolding rows
at_rows s m i j hi hj =
    rw (get_d_map_up_to (λ i. take s (drop (i * s) m)) s i [] hi) (get_or-take s (drop (i * s) m) j 0 hj ∙ get_or-drop (i * s) m j 0)

pub squares_rows : (s : ℕ) (m : List ℕ) → squares s (rows s m) ≡ sum (s - 1) (λ i. squares_from s m (i * s) (s - 1))
unfolding squares squares_from square
squares_rows s m =
    sum_same (s - 1) _ _ (λ i hi. sum_same (s - 1) _ _ (λ j hj.
    let next : (i + 1) * s ≡ i * s + s = rw (add-one, suc-mul) in
    let e : i * s + (j + 1) ≡ i * s + j + 1 = omega arith in
    let e' : i * s + s + (j + 1) ≡ i * s + s + j + 1 = omega arith in
    rw (at_rows s m i j (omega arith) (omega arith), at_rows s m i (j + 1) (omega arith) (omega arith), at_rows s m (i + 1) j (omega arith) (omega arith), at_rows s m (i + 1) (j + 1) (omega arith) (omega arith), next, e, e')))
