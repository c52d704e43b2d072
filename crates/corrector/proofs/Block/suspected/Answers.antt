-- `corrector::Block::suspected` meets its contract.
use Rattle.std.proofs.Common.{◌≡◌, ◌+◌, ◌*◌, ◌-◌, length, get_or, ap, ◌∙◌, arith, rules}
use native.Mathlib.Nat.{sub-zero}
use Rattle.field.specs.Field.{pow_n}
use Rattle.corrector.specs.Lanes.{filled}
use Rattle.corrector.proofs.Listing.{located_start, located_turn, found_start, powers, powers_row}
use Rattle.corrector.proofs.Rows.{row}
use Rattle.corrector.proofs.Block.suspected.Goals as goal

pub loop-group-init : goal.loop-group-init
unfolding filled powers
loop-group-init c = (powers_row, located_start, rw (sub-zero, c.none-found.ensures.0, c.none-found.ensures.1, c.none-found.ensures.2) (found_start _ _))

pub loop-group-preserved : goal.loop-group-preserved
unfolding filled
loop-group-preserved c = let l = c.loop-group in
    let n = length c.args.self.flags.now in
    let t = c.times_plus-next.result in
    let start : l.group * 32 + 32 ≡ (l.group + 1) * 32 = omega arith in
    let rest : n - l.group * 32 - c.min.result ≡ n - (l.group + 1) * 32 = omega (arith, c.min.ensures) in (
      row t (search rules) (λ h. search rules),
      λ i h. ap (λ u. get_or u i 0) c.times_plus-next.ensures ∙ (rw start at (located_turn (l.group * 32) l.xs l.invariant.1)) i h,
      rw rest at (c.grouped-found.ensures c.args.a.row (λ i h. c.values.ensures i (omega (arith, c.min.ensures)))
          (λ i h. l.invariant.1 i (omega (arith, c.min.ensures)) ∙ ap pow_n (omega (arith, c.min.ensures)))
          l.invariant.2),
    )
