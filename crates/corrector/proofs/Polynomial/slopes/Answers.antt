-- `corrector::Polynomial::slopes` meets its contract.
use Rattle.std.proofs.Common.{◌≡◌, suc, ◌+◌, ◌-◌, length, take, ap, ◌∙◌, arith, rules}
use native.Mathlib.Nat.{sub-zero}
use Rattle.std.proofs.lemmas.Iterator.Adapters.{YieldsList-from_rev_slice}
use Rattle.std.proofs.lemmas.List.{length_push}
use Rattle.theory.proofs.Values.{slopes_all}
use Rattle.theory.proofs.Gf.{gf256}
use Rattle.corrector.specs.Lanes.{filled, poly}
use Rattle.corrector.proofs.Backwards.{front_turn, front_end}
use Rattle.corrector.proofs.Rows.{row, Row, zeros_row}
use Rattle.corrector.proofs.Turns.{valued_start, valued_turn, sloped_start, sloped_turn}
use Rattle.corrector.proofs.Polynomial.slopes.Goals as goal

pub loop-coefficient-init : goal.loop-coefficient-init
unfolding filled
loop-coefficient-init c = (zeros_row, zeros_row, rw sub-zero (sloped_start c.args.self.row c.args.xs c.args.self.many c.args.self.below), rw sub-zero (valued_start c.args.self.row c.args.xs c.args.self.many c.args.self.below))

pub loop-coefficient-preserved : goal.loop-coefficient-preserved
unfolding filled
loop-coefficient-preserved c = let l = c.loop-coefficient in
    let a = c.args.self.row in
    let m = c.args.self.many in
    let xs = c.args.xs in
    let t = c.times_plus-slope.result in
    let u = c.times_plus-value.result in
    let ra : Row a = row a (search rules) (λ h. search rules) in
    let here = front_turn a m (omega (arith, ra.long, c.args.self.narrow)) (YieldsList-from_rev_slice (take m a) cc) l.yielded _ l.yielded_by _ _ c.in-Some.coefficient c.in-Some.is c.next.ensures.steps in
    let before : m - length l.yielded ≡ suc (m - suc (length l.yielded)) = omega (arith, here.0) in
    let after : m - suc (length l.yielded) ≡ m - (length l.yielded + 1) = omega arith in
    let value = rw before at l.invariant.3 in
    rw (length_push l.yielded c.in-Some.coefficient) (
      row t (search rules) (λ h. search rules),
      row u (search rules) (λ h. search rules),
      λ i h. ap (λ v. poly v i) c.times_plus-slope.ensures ∙ (rw after at (sloped_turn a xs l.r l.p (m - suc (length l.yielded)) ra l.invariant.0 (search rules) l.invariant.1.long value (rw before at l.invariant.2))) i h,
      λ i h. ap (λ v. poly v i) c.times_plus-value.ensures ∙ (rw after at (valued_turn a xs l.p (m - suc (length l.yielded)) c.in-Some.coefficient.now ra l.invariant.1 (search rules) here.1 value)) i h,
    )

pub returns : goal.returns
returns c = let l = c.loop-coefficient in
    let a = c.args.self.row in
    let m = c.args.self.many in
    let ra : Row a = row a (search rules) (λ h. search rules) in
    let end = front_end a m (omega (arith, ra.long, c.args.self.narrow)) (YieldsList-from_rev_slice (take m a) cc) l.yielded _ l.yielded_by _ _ c.in-None.is c.next.ensures.steps in
    let z : m - length l.yielded ≡ 0 = omega (arith, end) in
    λ i h. (rw z at l.invariant.2) i h ∙ slopes_all gf256 32 _ _
