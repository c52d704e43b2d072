-- `penalty::copy_line` meets its contract. The invariant: the first k modules are copied.
use Rattle.std.proofs.Common.{refl, ◌∙◌, arith, ◌≡◌, length}
use Rattle.basics.specs.Build.{build}
use Rattle.basics.proofs.Build.{build_more, build_all}
use Rattle.penalty.proofs.Lines.{built_line}
use Rattle.penalty.proofs.copy_line.Goals as goal

pub loop-k-init : goal.loop-k-init
unfolding build
loop-k-init c = refl

pub loop-k-preserved : goal.loop-k-preserved
loop-k-preserved c = build_more _ _ c.loop-k.k c.loop-k.invariant (omega arith)

pub returns : goal.returns
returns c =
    let e : c.loop-k.k ≡ length c.args.out.now = omega arith in
    build_all _ _ _ (omega arith) (rw e at c.loop-k.invariant) ∙ built_line _ _ _ _
