-- `penalty::equal_run` meets its contract.
use Rattle.std.proofs.Common.{rules, tests, ◌≡◌, refl, ap, ◌∙◌, ◌<◌, arith, ℕ, ◌&&◌, Bool, eqb, List, [], ◌∷◌, get_or}
use native.Mathlib.Nat.{add-zero, zero-mul}
use Rattle.std.specs.List.{list_all}
use Rattle.std.proofs.lemmas.Iterator.{YieldsList-from_slice}
use Rattle.std.proofs.lemmas.Iterator.Search.{all_from_yields_List}
use Rattle.basics.specs.Lists.{each}
use Rattle.penalty.specs.Lines.{line, alike}
use Rattle.penalty.proofs.Lines.{get_d_line}
use Rattle.penalty.proofs.equal_run.Goals as goal

every : (test : ℕ → Bool) (xs : List ℕ) → list_all test xs ≡ each test xs
unfolding each
every test [] = refl
every test (x ∷ xs) = ap (λ (b : Bool). test x && b) (every test xs)

-- the modules of a line beside their first
run_is : (m xs : List ℕ) (at stride k : ℕ) → 0 < k → xs ≡ line m at stride k → list_all (λ x. eqb x (get_or xs 0 0)) xs ≡ alike m at stride k
unfolding alike
run_is m xs at stride k h e =
    let first : get_or (line m at stride k) 0 0 ≡ get_or m at 0 = get_d_line m at stride k 0 h ∙ ap (λ (p : ℕ). get_or m p 0) (rw zero-mul (add-zero at)) in
    rw (e, first) (every (λ x. eqb x (get_or m at 0)) (line m at stride k))

pub returns : goal.returns
returns g c =
    let a = c.args in
    let xs = c.window-run.result in
    all_from_yields_List (λ x. eqb x (get_or xs 0 0)) c.all.new.self _ _ c.all.ensures.ran (YieldsList-from_slice xs cc) (λ x b q k. search (rules, tests))
    ∙ run_is a.m.now xs a.at a.stride g.row.K (omega arith) c.window-run.ensures
