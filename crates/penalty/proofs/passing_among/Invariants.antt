-- `penalty::passing_among` meets its contract. The invariant: the count is that of the places passed.
use Rattle.std.proofs.Common.{◌≡◌, ◌+◌, ◌≤◌, ℕ, Bool}
use Rattle.basics.specs.Sums.{tally}
use Rattle.penalty.specs.Lines.{AnswersAs}
use Rattle.penalty.proofs.passing_among.Given as goal

abbrev pub invariant-loop-i : goal.invariant-loop-i
invariant-loop-i g l = (l.count ≤ l.i) × ((f : ℕ → Bool) → AnswersAs (λ i b. goal.F-post g l.test (l.start + i) b) f l.i → l.count ≡ tally l.i f)
