-- `penalty::passing` meets its contract. The invariant: the count is that of the blocks passed.
use Rattle.std.proofs.Common.{◌≡◌, ◌*◌, ◌≤◌, ℕ, Bool}
use Rattle.basics.specs.Sums.{tally}
use Rattle.penalty.specs.Lines.{AnswersAs}
use Rattle.penalty.proofs.passing.Given as goal

abbrev pub invariant-loop-block : goal.invariant-loop-block
invariant-loop-block g l = (l.count ≤ 255 * l.block) × ((f : ℕ → Bool) → AnswersAs (goal.F-post g l.test) f (64 * l.block) → l.count ≡ tally (64 * l.block) f)
