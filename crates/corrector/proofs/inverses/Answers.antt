-- `corrector::inverses` meets its contract.
use Rattle.std.proofs.Common.{◌≡◌, ◌+◌, ◌-◌, arith, rules}
use Rattle.corrector.specs.Lanes.{filled}
use Rattle.corrector.proofs.Rows.{row, Row}
use Rattle.corrector.proofs.Turns.{inverting_start, inverting_turn, inverting_all, ones_row}
use Rattle.corrector.proofs.inverses.Goals as goal

pub loop-init : goal.loop-init
unfolding filled
loop-init c = let a = c.args.a in
    let ra : Row a = row a (search rules) (λ h. search rules) in
    (ones_row, ra, inverting_start a ra)

pub loop-preserved : goal.loop-preserved
unfolding filled
loop-preserved c = let l = c.loop in
    let t = c.times_plus-square.result in
    let u = c.times_plus-product.result in
    let next : 7 - l.counter - 1 ≡ 7 - (l.counter + 1) = omega arith in (
      row u (search rules) (λ h. search rules),
      row t (search rules) (λ h. search rules),
      rw next at (inverting_turn c.args.a l.r l.s t u (7 - l.counter) (omega arith) l.invariant.0 l.invariant.1 c.times_plus-square.ensures c.times_plus-product.ensures l.invariant.2),
    )

pub returns : goal.returns
returns c = let l = c.loop in
    let z : 7 - l.counter ≡ 0 = omega arith in
    inverting_all c.args.a l.r l.s l.invariant.0 (rw z at l.invariant.2)
