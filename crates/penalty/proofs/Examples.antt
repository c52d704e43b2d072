-- Cases j and k of the paper, and a line in which both forms of the pattern overlap.
use mathlib.Core.Path.{◌≡◌, refl}
use mathlib.Core.List.{[], ◌∷◌, map}
use lib.ListN.{replicate}
use Rattle.basics.specs.Lists.{same}
use Rattle.basics.specs.Sums.{sum}
use Rattle.penalty.specs.Penalty.{run, runs, runs_after, patterns, finder_like, windows, squares, share}

-- "Runs of 4, 5, 6 score 0, 3, 4"
pub runs_4_5_6 : map (λ n. runs (replicate n 1)) (4 ∷ 5 ∷ 6 ∷ []) ≡ 0 ∷ 3 ∷ 4 ∷ []
unfolding run runs runs_after
runs_4_5_6 = refl

-- "a 3 by 3 dark square has four 2 by 2 squares, 12"
pub dark_square : squares 3 (replicate 3 (replicate 3 1)) ≡ 12
unfolding squares sum
dark_square = refl

-- "Side 25: 374 dark add 10, 375 add 20"
pub dark_374_375 : map (share 25) (374 ∷ 375 ∷ []) ≡ 10 ∷ 20 ∷ []
unfolding share
dark_374_375 = refl

-- 0000 1011101 0000 has both forms
pub both_forms : windows (0 ∷ 0 ∷ 0 ∷ 0 ∷ 1 ∷ 0 ∷ 1 ∷ 1 ∷ 1 ∷ 0 ∷ 1 ∷ 0 ∷ 0 ∷ 0 ∷ 0 ∷ []) ≡ 80
unfolding windows finder_like patterns same
both_forms = refl
