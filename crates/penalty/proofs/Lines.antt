-- The lines of a matrix are its rows and its columns.
--     rows_lines       the rows are the lines that start at 0, s, 2·s, .. with stride 1
--     columns_lines    the columns are the lines that start at 0, 1, 2, .. with stride s
use mathlib.Core.Path.{◌≡◌, refl, sym, ap, ap₂, ◌∙◌}
use mathlib.Core.List.{List, ◌∷◌, map}
use Prim.Native.Nat.{ℕ, zero, suc, ◌+◌, ◌-◌, ◌*◌, ◌<◌, ◌≤◌}
use native.Mathlib.Nat.{add-zero, zero-add, add-mul, suc-mul, zero-mul, mul-one, mul-le-mul_right, not-suc-le-zero, le_of_suc-le-suc}
use native.Mathlib.Numerals.{add-one}
use native.Mathlib.Omega.{arith}
use lib.ListN.{length, get_or, take, drop}
use lib.Seq.{drop-cons, ext_get_or}
use Rattle.basics.specs.Build.{build}
use Rattle.basics.specs.Lists.{up_to, from}
use Rattle.basics.proofs.Build.{build_length, build_get}
use Rattle.penalty.specs.Penalty.{rows, columns}
use Rattle.penalty.specs.Lines.{line, lines_from}

pub length_line : (m : List ℕ) (start stride n : ℕ) → length (line m start stride n) ≡ n
unfolding line
length_line m start stride zero = refl
length_line m start stride (suc n) = ap suc (length_line m (start + stride) stride n)

pub get_d_line : (m : List ℕ) (start stride n k : ℕ) → k < n → get_or (line m start stride n) k 0 ≡ get_or m (start + k * stride) 0
unfolding line
get_d_line m start stride zero k h = absurd (not-suc-le-zero h)
get_d_line m start stride (suc n) zero h = ap (λ (p : ℕ). get_or m p 0) (rw zero-mul (sym (add-zero start)))
get_d_line m start stride (suc n) (suc k) h =
    get_d_line m (start + stride) stride n k (le_of_suc-le-suc h)
    ∙ ap (λ (p : ℕ). get_or m p 0) (rw suc-mul (omega arith))

-- the first of several modules, and those after it
pub line_cons : (m : List ℕ) (start stride n : ℕ) → 0 < n → line m start stride n ≡ get_or m start 0 ∷ line m (start + stride) stride (n - 1)
unfolding line
line_cons m start stride zero h = absurd (not-suc-le-zero h)
line_cons m start stride (suc n) h =
    let e : n ≡ suc n - 1 = omega arith in
    ap (λ (k : ℕ). get_or m start 0 ∷ line m (start + stride) stride k) e

-- the front of a line
pub take_line : (m : List ℕ) (start stride n k : ℕ) → k ≤ n → take k (line m start stride n) ≡ line m start stride k
unfolding line
take_line m start stride n zero h = refl
take_line m start stride zero (suc k) h = absurd (not-suc-le-zero h)
take_line m start stride (suc n) (suc k) h = ap (λ (xs : List ℕ). get_or m start 0 ∷ xs) (take_line m (start + stride) stride n k (le_of_suc-le-suc h))

-- a module before the end of n is a stride before it
pub reach : (k n stride : ℕ) → k < n → k * stride + stride ≤ n * stride
reach k n stride h = rw suc-mul at (mul-le-mul_right stride h)

-- rows of s modules in two parts
pub cut : (a b n s : ℕ) → a + b ≡ n → a * s + b * s ≡ n * s
cut a b n s e = sym (add-mul a b s) ∙ ap (λ (k : ℕ). k * s) e

-- a part of the matrix is a line with stride 1
part_line : (m : List ℕ) (start n : ℕ) → start + n ≤ length m → take n (drop start m) ≡ line m start 1 n
unfolding line
part_line m start zero h = refl
part_line m start (suc n) h =
    rw (drop-cons m start 0 (omega arith))
    (ap (λ (xs : List ℕ). get_or m start 0 ∷ xs) (ap (λ (p : ℕ). take n (drop p m)) (sym (add-one start)) ∙ part_line m (start + 1) n (omega arith)))

module _ (m : List ℕ) (step stride n : ℕ) (f : ℕ → List ℕ) where
  map_lines : (a k : ℕ) → ((i : ℕ) → i < a + k → f i ≡ line m (i * step) stride n) → map f (from a k) ≡ lines_from m (a * step) step stride n k
  unfolding from lines_from
  map_lines a zero h = refl
  map_lines a (suc k) h =
      ap₂ ◌∷◌ (h a (omega arith))
      (map_lines (suc a) k (λ i l. h i (omega arith)) ∙ ap (λ (p : ℕ). lines_from m p step stride n k) (suc-mul a step))

  map_all : (k : ℕ) → ((i : ℕ) → i < k → f i ≡ line m (i * step) stride n) → map f (up_to k) ≡ lines_from m 0 step stride n k
  unfolding up_to
  map_all k h = map_lines 0 k (λ i l. h i (omega arith)) ∙ ap (λ (p : ℕ). lines_from m p step stride n k) (zero-mul step)

-- row i starts at i·s, inside the matrix
row_inside : (s i : ℕ) → i < s → i * s + s ≤ s * s
row_inside s i h = rw suc-mul at (mul-le-mul_right s h)

pub rows_lines : (s : ℕ) (m : List ℕ) → length m ≡ s * s → rows s m ≡ lines_from m 0 s 1 s s
unfolding rows
rows_lines s m e =
    map_all m s 1 s (λ i. take s (drop (i * s) m)) s (λ i h. part_line m (i * s) s (rw e (row_inside s i h)))

-- the j-th of each row
column_line : (m : List ℕ) (s j : ℕ) → j < s → (start k : ℕ) → map (λ (l : List ℕ). get_or l j 0) (lines_from m start s 1 s k) ≡ line m (start + j) s k
unfolding lines_from line
column_line m s j h start zero = refl
column_line m s j h start (suc k) =
    ap₂ ◌∷◌ (get_d_line m start 1 s j h ∙ ap (λ (p : ℕ). get_or m (start + p) 0) (mul-one j))
    (column_line m s j h (start + s) k ∙ ap (λ (p : ℕ). line m p s k) (omega arith))

pub columns_lines : (s : ℕ) (m : List ℕ) → length m ≡ s * s → columns s (rows s m) ≡ lines_from m 0 1 s s s
unfolding columns
columns_lines s m e =
    rw (rows_lines s m e)
    (map_all m 1 s s (λ j. map (λ (l : List ℕ). get_or l j 0) (lines_from m 0 s 1 s s)) s
    (λ j h. column_line m s j h 0 s ∙ ap (λ (p : ℕ). line m p s s) (zero-add j ∙ sym (mul-one j))))

-- lines of two matrices, module by module
line_alike : (x m : List ℕ) (a b d e n : ℕ) → ((k : ℕ) → k < n → get_or x (a + k * d) 0 ≡ get_or m (b + k * e) 0) → line x a d n ≡ line m b e n
line_alike x m a b d e n h =
    ext_get_or 0 _ _ (length_line x a d n ∙ sym (length_line m b e n)) (λ k l.
    let l' : k < n = rw length_line at l in
    get_d_line x a d n k l' ∙ h k l' ∙ sym (get_d_line m b e n k l'))

pub lines_alike : (x m : List ℕ) (step stride step' stride' n k : ℕ)
    → ((i j : ℕ) → i < k → j < n → get_or x (i * step + j * stride) 0 ≡ get_or m (i * step' + j * stride') 0) → lines_from x 0 step stride n k ≡ lines_from m 0 step' stride' n k
lines_alike x m step stride step' stride' n k h =
    sym (map_all x step stride n (λ i. line x (i * step) stride n) k (λ i l. refl))
    ∙ map_all m step' stride' n (λ i. line x (i * step) stride n) k (λ i l. line_alike x m (i * step) (i * step') stride stride' n (λ j g. h i j l g))

-- a line by its modules
pub built_line : (m : List ℕ) (start stride n : ℕ) → build (λ j. get_or m (start + j * stride) 0) n ≡ line m start stride n
built_line m start stride n =
    ext_get_or 0 _ _ (build_length _ n ∙ sym (length_line m start stride n))
    (λ k h. let l : k < n = rw build_length at h in build_get _ n k l ∙ sym (get_d_line m start stride n k l))
