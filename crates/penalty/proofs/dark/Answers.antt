-- `penalty::dark` meets its contract: a module is 0 or 1, so that it counts itself.
use Rattle.std.proofs.Common.{rules, ◌≡◌, refl, ap, ◌∙◌, arith, ℕ, zero, suc, ◌+◌, ◌≤◌, eqb, List, [], ◌∷◌, map}
use Rattle.std.specs.List.{sum}
use Rattle.std.proofs.lemmas.Iterator.{YieldsList-from_slice, YieldsList-from_map}
use Rattle.std.proofs.lemmas.Iterator.Consumers.{YieldsList-at, sum_from_yields_List}
use Rattle.std.proofs.lemmas.List.Sums.{sum_by-cons}
use Rattle.basics.specs.Sums.{one}
use Rattle.basics.specs.Lists.{AtMost}
use Rattle.penalty.specs.Penalty.{dark}
use Rattle.penalty.proofs.dark.Goals as goal

itself : (x : ℕ) → x ≤ 1 → x ≡ one (eqb x 1)
itself zero h = refl
itself (suc zero) h = refl
itself (suc (suc x)) h = absurd (omega arith)

counted : (m : List ℕ) → AtMost 1 m → sum (map (λ x. x) m) ≡ dark m
unfolding dark
counted [] h = refl
counted (x ∷ m) h = sum_by-cons (λ y. y) x (map (λ y. y) m) ∙ ap (λ (y : ℕ). y + sum (map (λ z. z) m)) (itself x (h 0 (omega arith))) ∙ ap (λ (y : ℕ). one (eqb x 1) + y) (counted m (λ i l. h (suc i) (omega arith)))

pub returns : goal.returns
returns c =
    let m = c.args.m.now in
    sum_from_yields_List c.map.result _ c.sum.ensures.ran
    (YieldsList-from_map _ (λ x. x) (YieldsList-at c.map.ensures.source (YieldsList-from_slice m cc)) c.map.ensures.closure (λ x r q k. search rules))
    ∙ counted m c.requires.1
