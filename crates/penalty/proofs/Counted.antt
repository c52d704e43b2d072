-- The columns of a matrix by counts over its places, one after the other: `columns_counted`.
use mathlib.Core.Path.{◌≡◌, refl, sym, ap, ◌∙◌}
use mathlib.Core.Bool.{Bool, true, false, cond, ◌&&◌}
use mathlib.Core.Logic.{by_cases}
use mathlib.Core.List.{List}
use Prim.Native.Nat.{ℕ, zero, suc, ◌+◌, ◌-◌, ◌*◌, ◌<◌, ◌≤◌}
use native.Mathlib.Nat.{zero-add, add-zero, mul-one, zero-mul, suc-mul, mul-le-mul_right, le_trans, not-suc-le-zero, le_of_suc-le-suc}
use native.Mathlib.Decide.{dec_le}
use native.Mathlib.Numerals.{add-one}
use native.Mathlib.Omega.{arith}
use borrow.Author.Tests.{eq-eqb, le-leb, lt-leb}
use lib.Dec.{leb, eqb}
use lib.ListN.{get_or}
use Rattle.basics.specs.Sums.{sum, one, tally}
use Rattle.basics.specs.Lists.{each}
use Rattle.basics.proofs.Sums.{sum_same, sum_le, sum_mono, one_le, tally_le}
use Rattle.penalty.specs.Penalty.{finder_like, runs, windows, lines}
use Rattle.penalty.specs.Lines.{line, lines_from, alike, alike_from, windows_from}
use Rattle.penalty.proofs.Lines.{length_line, line_cons}
use Rattle.penalty.proofs.Runs.{lead, firsts, lead_same, firsts_cons, short_firsts, runs_firsts}
use Rattle.penalty.proofs.Sums.{sum_walk, sum_plus, sum_times, sum_grid}
use Rattle.penalty.proofs.Windows.{short_windows, windows_line}

suc_leb : (k l : ℕ) → leb k l ≡ leb (suc k) (suc l)
suc_leb k l =
    by_cases (dec_le k l) (λ (h : k ≤ l). le-leb k l h ∙ sym (le-leb (suc k) (suc l) (omega arith)))
    (λ (h : k ≤ l → ⊥). lt-leb k l (omega arith) ∙ sym (lt-leb (suc k) (suc l) (omega arith)))

-- the first k of n modules are of colour c
each_lead : (m : List ℕ) (c stride at k n : ℕ) → k ≤ n → each (λ x. eqb x c) (line m at stride k) ≡ leb k (lead c (line m at stride n))
unfolding each line lead
each_lead m c stride at zero n h = sym (le-leb 0 (lead c (line m at stride n)) (omega arith))
each_lead m c stride at (suc k) zero h = absurd (not-suc-le-zero h)
each_lead m c stride at (suc k) (suc n) h =
    step (lead c (line m (at + stride) stride n)) (each (λ x. eqb x c) (line m (at + stride) stride k)) (eqb (get_or m at 0) c) (each_lead m c stride (at + stride) k n (le_of_suc-le-suc h))
  where
    step : (l : ℕ) (t b : Bool) → t ≡ leb k l → b && t ≡ leb (suc k) (cond b (suc l) 0)
    step l t true e = e ∙ suc_leb k l
    step l t false e = sym (lt-leb (suc k) 0 (omega arith))

pub and_true : (b : Bool) → b && true ≡ b
and_true true = refl
and_true false = refl

module _ (m : List ℕ) (stride : ℕ) where
  -- one module, and one more
  pub alike_one : (at : ℕ) → alike m at stride 1 ≡ true
  unfolding alike each line
  alike_one at = rw (eq-eqb (get_or m at 0) (get_or m at 0) refl)

  each_more : (test : ℕ → Bool) (at k : ℕ) → each test (line m at stride (suc k)) ≡ each test (line m at stride k) && test (get_or m (at + k * stride) 0)
  unfolding each line
  each_more test at zero =
      and_true (test (get_or m at 0)) ∙ ap (λ (p : ℕ). test (get_or m p 0)) (rw zero-mul (sym (add-zero at)))
  each_more test at (suc k) =
      let e : at + stride + k * stride ≡ at + suc k * stride = rw suc-mul (omega arith) in
      ap (λ (b : Bool). test (get_or m at 0) && b) (each_more test (at + stride) k ∙ ap (λ (p : ℕ). each test (line m (at + stride) stride k) && test (get_or m p 0)) e)
      ∙ and_assoc (test (get_or m at 0)) _ _
    where
      and_assoc : (a b c : Bool) → a && (b && c) ≡ (a && b) && c
      and_assoc true b c = refl
      and_assoc false b c = refl

  pub alike_more : (at k : ℕ) → alike m at stride (k + 1) ≡ alike m at stride k && eqb (get_or m (at + k * stride) 0) (get_or m at 0)
  unfolding alike
  alike_more at k = rw add-one (each_more (λ x. eqb x (get_or m at 0)) at k)

  -- the line's first module, and those after it
  firsts_line : (k at n : ℕ) → 0 < k → k ≤ n → firsts k (line m at stride n) ≡ one (alike m at stride k) + firsts k (line m (at + stride) stride (n - 1))
  unfolding alike
  firsts_line k at n p h =
      let e = line_cons m at stride n (omega arith) in
      let l = lead_same (get_or m at 0) (get_or m at 0) (line m (at + stride) stride (n - 1)) refl in
      let a = each_lead m (get_or m at 0) stride at k n h in
      ap (firsts k) e
      ∙ firsts_cons k (get_or m at 0) (line m (at + stride) stride (n - 1))
      ∙ ap (λ (b : Bool). one b + firsts k (line m (at + stride) stride (n - 1))) (ap (leb k) (sym l) ∙ ap (λ (xs : List ℕ). leb k (lead (get_or m at 0) xs)) (sym e) ∙ sym a)

  -- a line's runs and windows as sums over the places where k modules begin
  firsts_sum : (k at n : ℕ) → 0 < k → k ≤ n + 1 → firsts k (line m at stride n) ≡ sum (n + 1 - k) (λ t. one (alike m (at + t * stride) stride k))
  firsts_sum k at n p h =
      let e : n ≡ n + 1 - k + (k - 1) = omega arith in
      ap (λ (j : ℕ). firsts k (line m at stride j)) e
      ∙ sum_walk (λ a j. firsts k (line m a stride (j + (k - 1)))) (λ a. one (alike m a stride k)) stride
      (λ a. short_firsts k _ (rw length_line (omega arith)))
      (λ a j. let f : suc j + (k - 1) - 1 ≡ j + (k - 1) = omega arith in firsts_line k a (suc j + (k - 1)) p (omega arith) ∙ rw f)
      at (n + 1 - k)

  windows_sum : (at n : ℕ) → 10 ≤ n → windows (line m at stride n) ≡ 40 * sum (n - 10) (λ t. one (finder_like (line m (at + t * stride) stride 11)))
  windows_sum at n h =
      let e : n ≡ n - 10 + 10 = omega arith in
      ap (λ (j : ℕ). windows (line m at stride j)) e
      ∙ sum_walk (λ a j. windows (line m a stride (j + 10))) (λ a. 40 * one (finder_like (line m a stride 11))) stride
      (λ a. short_windows _ (rw length_line (omega arith)))
      (λ a j. let f : suc j + 10 - 1 ≡ j + 10 = omega arith in windows_line m a stride (suc j + 10) (omega arith) ∙ rw f)
      at (n - 10)
      ∙ sum_times (n - 10) 40 _

  runs_sum : (at n : ℕ) → 10 ≤ n
      → runs (line m at stride n) + 2 * sum (n + 1 - 6) (λ t. one (alike m (at + t * stride) stride 6)) ≡ 3 * sum (n + 1 - 5) (λ t. one (alike m (at + t * stride) stride 5))
  runs_sum at n h =
      rw (sym (firsts_sum 6 at n (omega arith) (omega arith)), sym (firsts_sum 5 at n (omega arith) (omega arith))) (runs_firsts (line m at stride n))

-- several lines, one after the other
lines_sum : (m : List ℕ) (step stride n start k : ℕ)
    → lines (lines_from m start step stride n k) ≡ sum k (λ i. runs (line m (start + i * step) stride n) + windows (line m (start + i * step) stride n))
unfolding lines lines_from
lines_sum m step stride n start k =
    sum_walk (λ a j. lines (lines_from m a step stride n j)) (λ a. runs (line m a stride n) + windows (line m a stride n)) step (λ a. refl) (λ a j. refl) start k

-- ---- all columns

module _ (m : List ℕ) (s : ℕ) (h : 10 ≤ s) where
  column : (j : ℕ) → 0 + j * 1 ≡ j
  column j = zero-add (j * 1) ∙ mul-one j

  -- what begins at each place of the matrix
  all_alike : (k : ℕ) → sum s (λ j. sum (s + 1 - k) (λ t. one (alike m (j + t * s) s k))) ≡ alike_from m 0 s k ((s + 1 - k) * s)
  unfolding alike_from tally
  all_alike k =
      sum_grid s (s + 1 - k) (λ p. one (alike m p s k)) ∙ sum_same _ _ _ (λ j l. ap (λ (p : ℕ). one (alike m p s k)) (sym (zero-add j)))

  all_windows : sum s (λ j. sum (s - 10) (λ t. one (finder_like (line m (j + t * s) s 11)))) ≡ windows_from m 0 s ((s - 10) * s)
  unfolding windows_from tally
  all_windows =
      sum_grid s (s - 10) (λ p. one (finder_like (line m p s 11))) ∙ sum_same _ _ _ (λ j l. ap (λ (p : ℕ). one (finder_like (line m p s 11))) (sym (zero-add j)))

  all_runs : sum s (λ j. runs (line m j s s)) + 2 * alike_from m 0 s 6 ((s + 1 - 6) * s) ≡ 3 * alike_from m 0 s 5 ((s + 1 - 5) * s)
  all_runs =
      ap (λ (x : ℕ). sum s (λ j. runs (line m j s s)) + x) (ap (λ (x : ℕ). 2 * x) (sym (all_alike 6)) ∙ sym (sum_times s 2 _))
      ∙ sym (sum_plus s _ _)
      ∙ sum_same s _ _ (λ j l. runs_sum m s j s h)
      ∙ sum_times s 3 _
      ∙ ap (λ (x : ℕ). 3 * x) (all_alike 5)

  pub columns_counted : lines (lines_from m 0 1 s s s) + 2 * alike_from m 0 s 6 ((s + 1 - 6) * s)
      ≡ 3 * alike_from m 0 s 5 ((s + 1 - 5) * s) + 40 * windows_from m 0 s ((s - 10) * s)
  columns_counted =
      let a : lines (lines_from m 0 1 s s s) ≡ sum s (λ j. runs (line m j s s)) + sum s (λ j. windows (line m j s s)) =
      lines_sum m 1 s s 0 s ∙ sum_same s _ _ (λ j l. rw (column j)) ∙ sum_plus s _ _ in
      let b : sum s (λ j. windows (line m j s s)) ≡ 40 * windows_from m 0 s ((s - 10) * s) =
      sum_same s _ _ (λ j l. windows_sum m s j s h) ∙ sum_times s 40 _ ∙ ap (λ (x : ℕ). 40 * x) all_windows in
      omega (arith, all_runs)

  -- where k + 1 equal modules begin, k do
  pub longer_le : (k : ℕ) → k ≤ s → alike_from m 0 s (k + 1) ((s + 1 - (k + 1)) * s) ≤ alike_from m 0 s k ((s + 1 - k) * s)
  unfolding alike_from tally
  longer_le k l =
      le_trans (sum_le ((s + 1 - (k + 1)) * s) _ _ (λ j g. longer (0 + j)))
      (sum_mono ((s + 1 - (k + 1)) * s) ((s + 1 - k) * s) (λ j. one (alike m (0 + j) s k)) (mul-le-mul_right s (omega arith)))
    where
      both : (a b : Bool) → one (a && b) ≤ one a
      both true b = one_le b
      both false b = omega arith

      longer : (at : ℕ) → one (alike m at s (k + 1)) ≤ one (alike m at s k)
      longer at = rw (alike_more m s at k) (both (alike m at s k) _)

-- ---- how many there can be

pub runs_from_le : (m : List ℕ) (start stride k n : ℕ) → alike_from m start stride k n ≤ n
unfolding alike_from
runs_from_le m start stride k n = tally_le n _

pub windows_from_le : (m : List ℕ) (start stride n : ℕ) → windows_from m start stride n ≤ n
unfolding windows_from
windows_from_le m start stride n = tally_le n _
