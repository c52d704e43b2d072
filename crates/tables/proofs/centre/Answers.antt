-- `tables::centre` meets its contract: one test at each entry.
use mathlib.Core.Path.{◌≡◌, ap, ◌∙◌}
use mathlib.Core.List.{List, [], ◌∷◌}
use Prim.Native.Nat.{ℕ, suc, ◌-◌}
use native.Mathlib.Omega.{arith}
use lib.Dec.{T, eqb, eqb→eq}
use lib.ListN.{get_or}
use Rattle.basics.proofs.Test.{all, grid}
use Rattle.tables.specs.Tables.{centre_rows, centres}
use Rattle.tables.proofs.centre.Goals as goal

rows : List (List ℕ)
rows =
    (0 ∷ 0 ∷ 0 ∷ []) ∷ (6 ∷ 18 ∷ 0 ∷ []) ∷ (6 ∷ 22 ∷ 0 ∷ []) ∷ (6 ∷ 26 ∷ 0 ∷ []) ∷ (6 ∷ 30 ∷ 0 ∷ []) ∷
    (6 ∷ 34 ∷ 0 ∷ []) ∷ (6 ∷ 22 ∷ 38 ∷ []) ∷ (6 ∷ 24 ∷ 42 ∷ []) ∷ (6 ∷ 26 ∷ 46 ∷ []) ∷ (6 ∷ 28 ∷ 50 ∷ []) ∷ []

tested : T (all 10 (λ u. all 3 (λ k. eqb (get_or (get_or rows u []) k 0) (get_or (centres (suc u)) k 0))))
unfolding rows centres centre_rows
tested = tt

pub returns : goal.returns
unfolding rows
returns c = let v : ℕ = c.args.v in
    let k : ℕ = c.args.k in
    let up : suc (v - 1) ≡ v = omega arith in
    c.from.ensures ∙ eqb→eq _ _ (grid 10 3 (λ u k. eqb (get_or (get_or rows u []) k 0) (get_or (centres (suc u)) k 0)) tested (v - 1) k (omega arith) (omega arith)) ∙ ap (λ (w : ℕ). get_or (centres w) k 0) up
