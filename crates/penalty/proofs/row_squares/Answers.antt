-- `penalty::row_squares` meets its contract.
use Rattle.std.proofs.Common.{rules, refl, ◌∙◌, ◌+◌, ◌-◌, arith, get_or, List, ℕ}
use Rattle.std.proofs.lemmas.Iterator.{YieldsList-from_range, YieldsList-from_map}
use Rattle.std.proofs.lemmas.Iterator.Consumers.{YieldsList-at, sum_from_yields_List, fits_from_yields_list}
use Rattle.penalty.specs.Lines.{square, squares_from}
use Rattle.penalty.proofs.Bound.{sum_bound}
use Rattle.penalty.proofs.Squares.{square_le}
use Rattle.penalty.proofs.Sums.{sum_range}
use Rattle.penalty.proofs.row_squares.Goals as goal

-- what square j of a row adds
abbrev added : (m : List ℕ) (start s j : ℕ) → ℕ
added m start s j = square (get_or m (start + j) 0) (get_or m (start + j + 1) 0) (get_or m (start + s + j) 0) (get_or m (start + s + j + 1) 0)

pub sum-requires-clause-fits : goal.sum-requires-clause-fits
sum-requires-clause-fits c =
    let m = c.args.m.now in
    let start = c.args.start in
    let s = c.args.s in
    fits_from_yields_list c.map.result _
    (YieldsList-from_map _ (added m start s)
    (YieldsList-at c.map.ensures.source (YieldsList-from_range 0 (s - 1) (s - 1) refl (omega arith))) c.map.ensures.closure (λ x r q k. search rules))
    (rw (sum_range _ (s - 1)) (omega (arith, sum_bound (s - 1) (added m start s) 3 (λ j. square_le _ _ _ _))))

pub returns : goal.returns
unfolding squares_from
returns c =
    let m = c.args.m.now in
    let start = c.args.start in
    let s = c.args.s in
    sum_from_yields_List c.map.result _ c.sum.ensures.ran
    (YieldsList-from_map _ (added m start s)
    (YieldsList-at c.map.ensures.source (YieldsList-from_range 0 (s - 1) (s - 1) refl (omega arith))) c.map.ensures.closure (λ x r q k. search rules))
    ∙ sum_range _ (s - 1)
