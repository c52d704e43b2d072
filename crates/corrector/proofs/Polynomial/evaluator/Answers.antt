-- `corrector::Polynomial::evaluator` meets its contract.
use Rattle.std.proofs.Common.{◌≡◌, ℕ, suc, ◌+◌, ◌-◌, ◌<◌, get_or, Fits, w8, ap, ◌∙◌, arith, rules}
use mathlib.Core.Path.{ap₂}
use lib.Seq.{get_or-take, length-take-le}
use Rattle.corrector.specs.Lanes.{filled, times_plus, lowered, poly}
use Rattle.corrector.proofs.Rows.{row, zeros_row}
use Rattle.corrector.proofs.Turns.{summed_start, summed_turn, summed_all, evaluator_few}
use Rattle.corrector.proofs.Polynomial.evaluator.Goals as goal

pub loop-k-init : goal.loop-k-init
unfolding filled
loop-k-init c = (zeros_row, summed_start c.args.self.row c.args.s)

pub loop-k-preserved : goal.loop-k-preserved
unfolding filled
loop-k-preserved c = let l = c.loop-k in
    let a = c.args.self.row in
    let s = c.args.s in
    let t = c.times_plus-next.result in
    let here : l.k < (c.args.self.many - 1) = omega (arith, length-take-le (c.args.self.many - 1) s (search rules)) in
    let made : t ≡ times_plus (lowered a (l.k + 1)) (filled (get_or s l.k 0)) l.r =
    c.times_plus-next.ensures ∙ ap₂ (λ low x. times_plus low (filled x) l.r) c.lower.ensures (get_or-take (c.args.self.many - 1) s l.k 0 here) in
    let bytes : (h : ℕ) → get_or a h 0 < 256 = λ h. let f : Fits w8 (get_or a h 0) = search rules in omega (arith, f) in
    (row t (search rules) (λ h. search rules), λ h. ap (λ u. poly u h) made ∙ summed_turn a s l.r l.k bytes (search rules) l.invariant.0.long l.invariant.1 h)

pub invariant_of-result : goal.invariant_of-result
invariant_of-result c = let l = c.loop-k in
    let a = c.args.self in
    let end : l.k ≡ a.many - 1 = omega (arith, length-take-le (a.many - 1) c.args.s (search rules)) in
    let all : suc (a.many - 1) ≡ a.many = omega arith in
    record {
      narrow = omega (arith, a.narrow);
      below = evaluator_few a.row c.args.s l.r (a.many - 1) (rw all a.below) (summed_all a.row c.args.s l.r (a.many - 1) (omega (arith, a.narrow)) (rw all a.below) (rw end at l.invariant.1));
    }

pub returns : goal.returns
returns c = let l = c.loop-k in
    let a = c.args.self in
    let end : l.k ≡ a.many - 1 = omega (arith, length-take-le (a.many - 1) c.args.s (search rules)) in
    let all : suc (a.many - 1) ≡ a.many = omega arith in
    (omega arith, summed_all a.row c.args.s l.r (a.many - 1) (omega (arith, a.narrow)) (rw all a.below) (rw end at l.invariant.1))
