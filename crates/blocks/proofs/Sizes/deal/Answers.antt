-- `blocks::Sizes::deal` meets its contract. The invariant: the first k codewords are at their places.
use mathlib.Core.Path.{refl}
use Prim.Native.Nat.{◌+◌}
use native.Mathlib.Omega.{arith}
use Rattle.basics.specs.Walk.{walked}
use Rattle.blocks.specs.Blocks.{sent_place}
use Rattle.blocks.proofs.Walks.{deal_more, deal_all}
use Rattle.blocks.proofs.Sizes.deal.Goals as goal

pub loop-k-init : goal.loop-k-init
unfolding walked
loop-k-init c = refl

pub loop-k-preserved : goal.loop-k-preserved
loop-k-preserved c =
    let l = c.loop-k in
    let a = c.args in
    deal_more (λ k. sent_place a.self.v a.self.level a.b (a.first + k)) a.part.now l.out a.out.now l.k c.place.result c.place.ensures l.invariant

pub returns : goal.returns
returns c =
    let l = c.loop-k in
    let a = c.args in
    deal_all (λ k. sent_place a.self.v a.self.level a.b (a.first + k)) a.part.now l.out a.out.now l.k l.invariant (omega arith)
