-- Sums cut, joined and turned.
--     sum_first    the first of a sum by itself
--     sum_walk     what a walk with steps of d adds is a sum
--     sum_split    a sum in two parts; tally_split, the same of a tally
--     sum_plus     a sum of sums; sum_times, of multiples
--     sum_range    what a chain over 0, .., n - 1 adds
--     sum_grid     what stands in s columns of t rows, column by column, stands in t · s places, one after the other
use mathlib.Core.Path.{◌≡◌, refl, sym, ap, ap₂, ◌∙◌}
use mathlib.Core.Bool.{Bool}
use Prim.Native.Nat.{ℕ, zero, suc, ◌+◌, ◌*◌}
use native.Mathlib.Nat.{add-zero, add-suc, add_assoc, zero-mul, suc-mul, mul-add}
use native.Mathlib.Numerals.{add-one}
use native.Mathlib.Omega.{arith}
use mathlib.Core.List.{map}
use Rattle.std.specs.List.{range_with_len}
use Rattle.std.specs.List.{sum as total}
use Rattle.std.proofs.lemmas.List.FromFn.{sum_by-map-range_with_len_more}
use Rattle.basics.specs.Sums.{sum, one, tally}
use Rattle.basics.proofs.Sums.{sum_same, sum_zero}

sum_first : (n : ℕ) (f : ℕ → ℕ) → sum (suc n) f ≡ f 0 + sum n (λ i. f (suc i))
unfolding sum
sum_first zero f = omega arith
sum_first (suc n) f = rw (sum_first n f) (add_assoc (f 0) (sum n (λ i. f (suc i))) (f (suc n)))

pub sum_walk : (F : ℕ → ℕ → ℕ) (g : ℕ → ℕ) (d : ℕ) → ((a : ℕ) → F a 0 ≡ 0) → ((a k : ℕ) → F a (suc k) ≡ g a + F (a + d) k)
    → (a k : ℕ) → F a k ≡ sum k (λ t. g (a + t * d))
unfolding sum
sum_walk F g d none more a zero = none a
sum_walk F g d none more a (suc k) =
    more a k
    ∙ ap₂ ◌+◌ (ap g (rw zero-mul (sym (add-zero a))))
    (sum_walk F g d none more (a + d) k ∙ sum_same k _ _ (λ t h. ap g (rw suc-mul (omega arith))))
    ∙ sym (sum_first k (λ t. g (a + t * d)))

pub sum_split : (a b : ℕ) (f : ℕ → ℕ) → sum (a + b) f ≡ sum a f + sum b (λ j. f (a + j))
unfolding sum
sum_split a zero f = rw add-zero (sym (add-zero (sum a f)))
sum_split a (suc b) f = rw (add-suc, sum_split a b f) (add_assoc (sum a f) (sum b (λ j. f (a + j))) (f (a + b)))

pub tally_split : (a b : ℕ) (test : ℕ → Bool) → tally (a + b) test ≡ tally a test + tally b (λ j. test (a + j))
unfolding tally
tally_split a b test = sum_split a b (λ k. one (test k))

-- one place more, where the test passes and where it does not
pub tally_more : (n : ℕ) (test : ℕ → Bool) (b : Bool) → b ≡ test n → tally (n + 1) test ≡ tally n test + one b
unfolding tally sum
tally_more n test b e = rw (add-one, e)

pub sum_plus : (n : ℕ) (f g : ℕ → ℕ) → sum n (λ k. f k + g k) ≡ sum n f + sum n g
unfolding sum
sum_plus zero f g = refl
sum_plus (suc n) f g = omega (arith, sum_plus n f g)

pub sum_times : (n c : ℕ) (f : ℕ → ℕ) → sum n (λ k. c * f k) ≡ c * sum n f
unfolding sum
sum_times zero c f = omega arith
sum_times (suc n) c f = rw (sum_times n c f) (sym (mul-add c (sum n f) (f n)))

pub sum_grid : (s t : ℕ) (f : ℕ → ℕ) → sum s (λ j. sum t (λ i. f (j + i * s))) ≡ sum (t * s) f
unfolding sum
sum_grid s zero f = sum_zero s _ (λ j h. refl) ∙ rw zero-mul
sum_grid s (suc t) f =
    sum_plus s (λ j. sum t (λ i. f (j + i * s))) (λ j. f (j + t * s))
    ∙ ap₂ ◌+◌ (sum_grid s t f) (sum_same s _ _ (λ j h. ap f (omega arith)))
    ∙ sym (sum_split (t * s) s f)
    ∙ ap (λ (n : ℕ). sum n f) (sym (suc-mul t s))

pub sum_range : (f : ℕ → ℕ) (n : ℕ) → total (map f (range_with_len 0 n)) ≡ sum n f
unfolding sum
sum_range f zero = refl
sum_range f (suc n) =
    ap (λ (k : ℕ). total (map f (range_with_len 0 k))) (sym (add-one n))
    ∙ sum_by-map-range_with_len_more (λ x. x) f 0 n n (omega arith)
    ∙ ap (λ (x : ℕ). x + f n) (sum_range f n)
