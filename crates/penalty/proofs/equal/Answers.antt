-- `penalty::equal` meets its contract.
use Rattle.std.proofs.Common.{rules, tests, ◌≡◌, refl, ap, ◌∙◌, arith, ℕ, ◌&&◌, Bool, eqb, List, [], ◌∷◌, length}
use Rattle.std.specs.List.{list_all, zip}
use Rattle.std.proofs.lemmas.Iterator.{YieldsList-from_slice, YieldsList-from_zip}
use Rattle.std.proofs.lemmas.Iterator.Consumers.{YieldsList-at}
use Rattle.std.proofs.lemmas.Iterator.Search.{all_from_yields_List}
use Rattle.basics.specs.Lists.{same}
use Rattle.penalty.proofs.equal.Goals as goal

pairs : (xs ys : List ℕ) → length xs ≡ length ys → list_all (λ (p : ℕ × ℕ). eqb p.0 p.1) (zip xs ys) ≡ same xs ys
unfolding same
pairs [] [] h = refl
pairs [] (y ∷ ys) h = cc
pairs (x ∷ xs) [] h = cc
pairs (x ∷ xs) (y ∷ ys) h = ap (λ (b : Bool). eqb x y && b) (pairs xs ys (omega arith))

pub returns : goal.returns
returns c =
    let w = c.args.w.now in
    let p = c.args.p.now in
    all_from_yields_List (λ (q : ℕ × ℕ). eqb q.0 q.1) c.all.new.self _ _ c.all.ensures.ran
    (YieldsList-from_zip (YieldsList-at c.zip.ensures.first (YieldsList-from_slice w cc)) (YieldsList-from_slice p cc)) (λ x b q k. search (rules, tests))
    ∙ pairs w p (omega arith)
