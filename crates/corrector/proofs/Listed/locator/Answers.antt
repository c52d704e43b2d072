-- `corrector::Listed::locator` meets its contract.
use Rattle.std.proofs.Common.{◌≡◌, ◌<◌, get_or, refl, ap, ◌∙◌, arith, rules}
use mathlib.Core.Path.{ap₂}
use native.Mathlib.Numerals.{add-one}
use lib.Seq.{get_or-take, length-take-le}
use Rattle.corrector.specs.Lanes.{filled, times_plus, raised, poly}
use Rattle.corrector.proofs.Rows.{row, unit_row}
use Rattle.corrector.proofs.Turns.{product_start, product_turn, product_few}
use Rattle.corrector.proofs.Listed.locator.Goals as goal

pub loop-x-init : goal.loop-x-init
loop-x-init c = (unit_row, product_start c.args.self.now.xs)

pub loop-x-preserved : goal.loop-x-preserved
unfolding filled
loop-x-preserved c = let l = c.loop-x in
    let xs = c.args.self.now.xs in
    let t = c.times_plus-next.result in
    let here : l.x-index < c.args.self.now.count = omega (arith, length-take-le c.args.self.now.count xs (search rules)) in
    let made : t ≡ times_plus l.r (filled (get_or xs l.x-index 0)) (raised l.r 1) =
    c.times_plus-next.ensures ∙ ap₂ (λ x high. times_plus l.r (filled x) high) (get_or-take c.args.self.now.count xs l.x-index 0 here) c.raise.ensures in
    (row t (search rules) (λ h. search rules), λ h. ap (λ u. poly u h) made ∙ product_turn xs l.r l.x-index (omega arith) l.invariant.0 l.invariant.1 h)

pub invariant_of-result : goal.invariant_of-result
invariant_of-result c = let l = c.loop-x in
    let end : l.x-index ≡ c.args.self.now.count = omega (arith, length-take-le c.args.self.now.count c.args.self.now.xs (search rules)) in
    record { narrow = omega arith; below = rw add-one (product_few c.args.self.now.xs l.r c.args.self.now.count (rw end at l.invariant.1)) }

pub returns : goal.returns
returns c = let l = c.loop-x in
    let end : l.x-index ≡ c.args.self.now.count = omega (arith, length-take-le c.args.self.now.count c.args.self.now.xs (search rules)) in
    (refl, rw end at l.invariant.1)
