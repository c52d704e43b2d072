-- `blocks::Sizes::gather_block` meets its contract. The invariant: the first p codewords of the block are gathered.
use mathlib.Core.Path.{refl, ap}
use Prim.Native.Nat.{ℕ}
use native.Mathlib.Omega.{arith}
use lib.ListN.{get_or}
use Rattle.basics.specs.Build.{build}
use Rattle.basics.proofs.Build.{build_put}
use Rattle.tables.specs.Tables.{block_length}
use Rattle.blocks.specs.Blocks.{gathered, sent_place}
use Rattle.blocks.proofs.Cuts.{built}
use Rattle.blocks.proofs.Sizes.gather_block.Goals as goal

pub loop-p-init : goal.loop-p-init
unfolding build
loop-p-init c = refl

pub loop-p-preserved : goal.loop-p-preserved
loop-p-preserved c =
    let l = c.loop-p in
    let a = c.args in
    build_put (λ p. get_or a.received.now (sent_place a.self.v a.self.level a.b p) 0) l.out l.p _ l.invariant (omega arith)
    (ap (λ (q : ℕ). get_or a.received.now q 0) c.place.ensures)

pub returns : goal.returns
unfolding gathered
returns c =
    let l = c.loop-p in
    let a = c.args in
    built (λ p. get_or a.received.now (sent_place a.self.v a.self.level a.b p) 0) l.out l.p (block_length a.self.v a.self.level a.b) l.invariant
    (omega (arith, c.requires.block.1)) (omega (arith, c.requires.block.1))
