-- `modules::row_flips` meets its contract: one computed test over every mask and row.
use mathlib.Core.Path.{ap, ◌∙◌}
use mathlib.Core.List.{List, [], ◌∷◌}
use Prim.Native.Nat.{ℕ, ◌*◌, ◌%◌}
use native.Mathlib.Omega.{arith}
use lib.Dec.{T, eqb, eqb→eq}
use lib.ListN.{get_or}
use Rattle.basics.proofs.Test.{all, grid}
use Rattle.modules.specs.Kinds.{row_flips}
use Rattle.modules.proofs.Open.{every}
use Rattle.modules.proofs.row_flips.Goals as goal

rows : List (List ℕ)
rows =
    (21 ∷ 42 ∷ 21 ∷ 42 ∷ 21 ∷ 42 ∷ 21 ∷ 42 ∷ 21 ∷ 42 ∷ 21 ∷ 42 ∷ []) ∷ (63 ∷ 0 ∷ 63 ∷ 0 ∷ 63 ∷ 0 ∷ 63 ∷ 0 ∷ 63 ∷ 0 ∷ 63 ∷ 0 ∷ []) ∷
    (9 ∷ 9 ∷ 9 ∷ 9 ∷ 9 ∷ 9 ∷ 9 ∷ 9 ∷ 9 ∷ 9 ∷ 9 ∷ 9 ∷ []) ∷ (9 ∷ 36 ∷ 18 ∷ 9 ∷ 36 ∷ 18 ∷ 9 ∷ 36 ∷ 18 ∷ 9 ∷ 36 ∷ 18 ∷ []) ∷
    (7 ∷ 7 ∷ 56 ∷ 56 ∷ 7 ∷ 7 ∷ 56 ∷ 56 ∷ 7 ∷ 7 ∷ 56 ∷ 56 ∷ []) ∷ (63 ∷ 1 ∷ 9 ∷ 21 ∷ 9 ∷ 1 ∷ 63 ∷ 1 ∷ 9 ∷ 21 ∷ 9 ∷ 1 ∷ []) ∷
    (63 ∷ 7 ∷ 27 ∷ 21 ∷ 45 ∷ 49 ∷ 63 ∷ 7 ∷ 27 ∷ 21 ∷ 45 ∷ 49 ∷ []) ∷ (21 ∷ 56 ∷ 49 ∷ 42 ∷ 7 ∷ 14 ∷ 21 ∷ 56 ∷ 49 ∷ 42 ∷ 7 ∷ 14 ∷ []) ∷ []

abbrev sixths : ℕ
sixths = 18300341342965825

tested : T (all 8 (λ m. all 60 (λ i. eqb (get_or (get_or rows m []) (i % 12) 0 * sixths) (row_flips m i))))
unfolding every rows row_flips
tested = tt

pub returns : goal.returns
unfolding rows
returns c = let a = c.args in
    ap (λ (x : ℕ). x * sixths) c.from.ensures
    ∙ eqb→eq _ _ (grid 8 60 (λ m i. eqb (get_or (get_or rows m []) (i % 12) 0 * sixths) (row_flips m i)) tested a.mask a.i (omega arith) (omega arith))
