-- `penalty::columns_score` meets its contract: `columns_counted`.
use Rattle.std.proofs.Common.{rules, ℕ, Bool, List, ◌≡◌, refl, ◌∙◌, ap, ◌+◌, ◌-◌, ◌*◌, ◌≤◌, arith}
use native.Mathlib.Nat.{mul-le-mul, zero-add}
use Rattle.basics.specs.Sums.{tally}
use Rattle.penalty.specs.Penalty.{finder_like}
use Rattle.penalty.specs.Lines.{line, AnswersAs, alike, alike_from, windows_from}
use Rattle.penalty.proofs.Counted.{columns_counted, longer_le, runs_from_le, windows_from_le}
use Rattle.penalty.proofs.columns_score.Goals as goal

module _ {post : ℕ → Bool → Type 0} (m : List ℕ) (s n x : ℕ) (h : (g : ℕ → Bool) → AnswersAs post g n → x ≡ tally n g) where
  -- what is counted where each place is asked for k equal modules
  runs_counted : (k : ℕ) → n ≡ (s + 1 - k) * s → ((i : ℕ) (b : Bool) → post i b → b ≡ alike m i s k) → x ≡ alike_from m 0 s k ((s + 1 - k) * s)
  unfolding alike_from
  runs_counted k e call =
      h (λ j. alike m (0 + j) s k) (λ i b l p. rw zero-add (call i b p)) ∙ ap (λ (a : ℕ). tally a (λ j. alike m (0 + j) s k)) e

  -- and for a window that is a pattern
  windows_counted : n ≡ (s - 10) * s → ((i : ℕ) (b : Bool) → post i b → b ≡ finder_like (line m i s 11)) → x ≡ windows_from m 0 s ((s - 10) * s)
  unfolding windows_from
  windows_counted e call =
      h (λ j. finder_like (line m (0 + j) s 11)) (λ i b l p. rw zero-add (call i b p)) ∙ ap (λ (a : ℕ). tally a (λ j. finder_like (line m (0 + j) s 11))) e

places : (a s : ℕ) → a ≤ 57 → s ≤ 57 → a * s ≤ 3249
places a s h l = mul-le-mul h l

-- a count of runs of a length
few : (m : List ℕ) (s k x : ℕ) → 1 ≤ k → s ≤ 57 → x ≡ alike_from m 0 s k ((s + 1 - k) * s) → x ≤ 3249
few m s k x low h e = omega (arith, runs_from_le m 0 s k ((s + 1 - k) * s), places (s + 1 - k) s (omega arith) h)

few_windows : (m : List ℕ) (s x : ℕ) → s ≤ 57 → x ≡ windows_from m 0 s ((s - 10) * s) → x ≤ 3249
few_windows m s x h e = omega (arith, windows_from_le m 0 s ((s - 10) * s), places (s - 10) s (omega arith) h)

-- runs of one more are no more
fewer : (m : List ℕ) (s k x y : ℕ) → 10 ≤ s → k ≤ s → x ≡ alike_from m 0 s k ((s + 1 - k) * s) → y ≡ alike_from m 0 s (k + 1) ((s + 1 - (k + 1)) * s) → y ≤ x
fewer m s k x y low h e f = omega (arith, longer_le m s low k h)

fives : (c : goal.After-passing-windows) → c.passing-fives.result ≡ alike_from c.args.m.now 0 c.args.s 5 ((c.args.s + 1 - 5) * c.args.s)
fives c =
    let s = c.args.s in
    let n : (s - 4) * s ≡ (s + 1 - 5) * s = ap (λ (k : ℕ). k * s) (omega arith) in
    runs_counted c.args.m.now s _ _ c.passing-fives.ensures 5 n (λ i b p. search rules)

sixes : (c : goal.After-passing-windows) → c.passing-sixes.result ≡ alike_from c.args.m.now 0 c.args.s 6 ((c.args.s + 1 - 6) * c.args.s)
sixes c =
    let s = c.args.s in
    let n : (s - 5) * s ≡ (s + 1 - 6) * s = ap (λ (k : ℕ). k * s) (omega arith) in
    runs_counted c.args.m.now s _ _ c.passing-sixes.ensures 6 n (λ i b p. search rules)

windows : (c : goal.After-passing-windows) → c.passing-windows.result ≡ windows_from c.args.m.now 0 c.args.s ((c.args.s - 10) * c.args.s)
windows c = windows_counted c.args.m.now c.args.s _ _ c.passing-windows.ensures refl (λ i b p. search rules)

pub overflow_mul-result : goal.overflow_mul-result
overflow_mul-result c = omega (arith, few _ _ _ _ (omega arith) (omega arith) (fives c))

pub overflow_mul-result-2 : goal.overflow_mul-result-2
overflow_mul-result-2 c = omega (arith, few _ _ _ _ (omega arith) (omega arith) (sixes c))

pub overflow_sub-result : goal.overflow_sub-result
overflow_sub-result c = omega (arith, fewer _ _ _ _ _ (omega arith) (omega arith) (fives c) (sixes c))

pub overflow_mul-result-3 : goal.overflow_mul-result-3
overflow_mul-result-3 c = omega (arith, few_windows _ _ _ (omega arith) (windows c))

pub overflow_add-result : goal.overflow_add-result
overflow_add-result c = omega (arith, few _ _ _ _ (omega arith) (omega arith) (fives c), few_windows _ _ _ (omega arith) (windows c))

pub returns : goal.returns
returns c =
    let a = c.args in
    omega (
      arith,
      fewer _ _ _ _ _ (omega arith) (omega arith) (fives c) (sixes c),
      fives c,
      sixes c,
      windows c,
      columns_counted a.m.now a.s (omega arith),
    )
