-- Laws of sums and tallies.
use mathlib.Core.Path.{◌≡◌, refl, ap₂}
use mathlib.Core.Bool.{Bool, true, false}
use Prim.Native.Nat.{ℕ, zero, suc, ◌+◌, ◌-◌, ◌<◌, ◌≤◌}
use native.Mathlib.Nat.{le_refl, add-zero, add-suc}
use native.Mathlib.Omega.{arith}
use Rattle.basics.specs.Sums.{sum, one, tally}

pub sum_same : (n : ℕ) (f g : ℕ → ℕ) → ((k : ℕ) → k < n → f k ≡ g k) → sum n f ≡ sum n g
unfolding sum
sum_same zero f g h = refl
sum_same (suc n) f g h = ap₂ ◌+◌ (sum_same n f g (λ k l. h k (omega arith))) (h n (omega arith))

pub sum_zero : (n : ℕ) (f : ℕ → ℕ) → ((k : ℕ) → k < n → f k ≡ 0) → sum n f ≡ 0
unfolding sum
sum_zero zero f h = refl
sum_zero (suc n) f h = rw (sum_zero n f (λ k l. h k (omega arith)), h n (omega arith))

pub sum_le : (n : ℕ) (f g : ℕ → ℕ) → ((k : ℕ) → k < n → f k ≤ g k) → sum n f ≤ sum n g
unfolding sum
sum_le zero f g h = le_refl 0
sum_le (suc n) f g h = omega (arith, sum_le n f g (λ k l. h k (omega arith)), h n (omega arith))

-- a shorter sum is no larger
sum_more : (m k : ℕ) (f : ℕ → ℕ) → sum m f ≤ sum (m + k) f
unfolding sum
sum_more m zero f = rw add-zero (le_refl (sum m f))
sum_more m (suc k) f = rw add-suc (omega (arith, sum_more m k f))

pub sum_mono : (m n : ℕ) (f : ℕ → ℕ) → m ≤ n → sum m f ≤ sum n f
sum_mono m n f h =
    let e : m + (n - m) ≡ n = omega arith in
    rw e at (sum_more m (n - m) f)

pub one_le : (b : Bool) → one b ≤ 1
one_le true = le_refl 1
one_le false = omega arith

pub tally_le : (n : ℕ) (test : ℕ → Bool) → tally n test ≤ n
unfolding tally sum
tally_le zero test = le_refl 0
tally_le (suc n) test = omega (arith, tally_le n test, one_le (test n))
