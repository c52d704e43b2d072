-- `penalty::score` meets its contract: its parts are those of the definition, and their bounds keep the sum in range.
use mathlib.Core.Path.{◌≡◌, sym, ap, ap₂, ◌∙◌}
use mathlib.Core.List.{List}
use Prim.Native.Nat.{ℕ, ◌+◌, ◌*◌, ◌≤◌}
use native.Mathlib.Nat.{mul-le-mul}
use native.Mathlib.Omega.{arith}
use lib.ListN.{length}
use Rattle.penalty.specs.Penalty.{score, lines, dark, share}
use Rattle.penalty.specs.Lines.{lines_from}
use Rattle.penalty.proofs.Bound.{lines_small, squares_small, dark_le, share_le}
use Rattle.penalty.proofs.Lines.{rows_lines, columns_lines}
use Rattle.penalty.proofs.Turned.{turned_lines}
use Rattle.penalty.proofs.score.Goals as goal

area : (s : ℕ) → s ≤ 57 → s * s ≤ 3249
area s h = mul-le-mul h h

count : (m : List ℕ) (s : ℕ) → length m ≡ s * s → dark m ≤ s * s
count m s e = omega (arith, dark_le m, e)

pub overflow_add-result : goal.overflow_add-result
overflow_add-result c =
    let h : c.args.s ≤ 57 = omega arith in
    let r : c.columns_score-rows.result ≤ 110295 = rw c.columns_score-rows.ensures (lines_small _ _ _ _ _ h) in
    let k : c.columns_score-columns.result ≤ 110295 = rw c.columns_score-columns.ensures (lines_small _ _ _ _ _ h) in
    omega arith

pub overflow_add-result-2 : goal.overflow_add-result-2
overflow_add-result-2 c =
    let h : c.args.s ≤ 57 = omega arith in
    let r : c.columns_score-rows.result ≤ 110295 = rw c.columns_score-rows.ensures (lines_small _ _ _ _ _ h) in
    let k : c.columns_score-columns.result ≤ 110295 = rw c.columns_score-columns.ensures (lines_small _ _ _ _ _ h) in
    let q : c.squares_score-squares.result ≤ 9408 = rw c.squares_score-squares.ensures (squares_small _ _ h) in
    omega arith

pub share_score-requires : goal.share_score-requires
share_score-requires c = omega (arith, count c.args.m.now c.args.s c.requires.1.1.0, area c.args.s (omega arith), c.dark.ensures)

pub overflow_add-result-3 : goal.overflow_add-result-3
overflow_add-result-3 c =
    let a = c.args in
    let h : a.s ≤ 57 = omega arith in
    let r : c.columns_score-rows.result ≤ 110295 = rw c.columns_score-rows.ensures (lines_small _ _ _ _ _ h) in
    let k : c.columns_score-columns.result ≤ 110295 = rw c.columns_score-columns.ensures (lines_small _ _ _ _ _ h) in
    let q : c.squares_score-squares.result ≤ 9408 = rw c.squares_score-squares.ensures (squares_small _ _ h) in
    let d : c.share_score.result ≤ 100 = rw (c.share_score.ensures, c.dark.ensures) (share_le a.s (dark a.m.now) (count a.m.now a.s c.requires.1.1.0)) in
    omega arith

pub returns : goal.returns
unfolding score
returns c =
    let m = c.args.m.now in
    let s = c.args.s in
    let e = c.requires.1.1.0 in
    ap₂ ◌+◌
    (ap₂ ◌+◌
    (ap₂ ◌+◌
    (c.columns_score-rows.ensures ∙ ap (λ (xs : List ℕ). lines (lines_from xs 0 1 s s s)) c.turn.ensures ∙ ap lines (turned_lines m _ s ∙ sym (rows_lines s m e)))
    (c.columns_score-columns.ensures ∙ ap lines (sym (columns_lines s m e))))
    c.squares_score-squares.ensures)
    (c.share_score.ensures ∙ ap (share s) c.dark.ensures)
