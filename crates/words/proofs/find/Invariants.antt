-- `words::find` meets its contract. The loop's invariant: the copy stands for no word that was passed.
use Rattle.std.proofs.Common.{ℕ, ◌≤◌, ◌<◌}
use Rattle.words.specs.Words.{Near}
use Rattle.words.proofs.find.Given as goal

abbrev pub invariant-loop-x : goal.invariant-loop-x
invariant-loop-x g l = (y : ℕ) → y < l.x → l.first ≤ y → (word : ℕ) × goal.F-post g l.word y word × (Near l.bits l.copy l.readable word → ⊥)
