-- What is promised of the score and of the choice of the mask, beside the contract of `score`.
use Rattle.std.specs.Prelude.{◌≡◌, List, ℕ, ◌*◌, ◌<◌, ◌≤◌, length, get_or}
use Rattle.basics.specs.Lists.{AtMost}
use Rattle.penalty.specs.Penalty.{score, least_place}

-- "The score never exceeds 230098 at side 57"
abbrev pub ScoreBound : Type 0
ScoreBound = (m : List ℕ) → length m ≡ 57 * 57 → AtMost 1 m → score 57 m ≤ 230098

-- "the least score is taken, the lowest mask among equals"
pub record LeastRule (xs : List ℕ) : Type 0 where
  pub inside : least_place xs < length xs
  pub least : (k : ℕ) → k < length xs → get_or xs (least_place xs) 0 ≤ get_or xs k 0
  pub lowest : (k : ℕ) → k < least_place xs → get_or xs (least_place xs) 0 < get_or xs k 0

abbrev pub Least : Type 0
Least = (xs : List ℕ) → 0 < length xs → LeastRule xs
