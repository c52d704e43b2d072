-- `parse::read_body` meets its contract. The invariant: what is written and what is left make the body.
use native.Mathlib.Omega.{arith}
use Rattle.parse.proofs.Along.{along_all, turn}
use Rattle.parse.proofs.read_body.Goals as goal

pub take-taken-requires : goal.take-taken-requires
take-taken-requires c =
    let t = turn _ _ _ _ _ _ _ _ _ c.loop-done.invariant c.requires.knows c.loop-done-test.true c.next_group-group.result c.next_group-group.ensures in
    (t.narrow, (omega arith, omega (arith, t.holds)))

pub returns-then-group-x : goal.returns-then-group-x
returns-then-group-x c =
    let t = turn _ _ _ _ _ _ _ _ _ c.loop-done.invariant c.requires.knows c.loop-done-test.true c.next_group-group.result c.next_group-group.ensures in
    t.broken (omega (arith, c.take-taken.ensures.0, c.if-group-x.true))

pub put_group-requires : goal.put_group-requires
put_group-requires c =
    let t = turn _ _ _ _ _ _ _ _ _ c.loop-done.invariant c.requires.knows c.loop-done-test.true c.next_group-group.result c.next_group-group.ensures in
    (t.inside _ c.if-group-x.false, omega (arith, t.most, c.loop-done.invariant.long))

pub overflow_add-done : goal.overflow_add-done
overflow_add-done c =
    let t = turn _ _ _ _ _ _ _ _ _ c.loop-done.invariant c.requires.knows c.loop-done-test.true c.next_group-group.result c.next_group-group.ensures in
    omega (arith, t.most)

pub loop-done-smaller : goal.loop-done-smaller
loop-done-smaller c =
    let t = turn _ _ _ _ _ _ _ _ _ c.loop-done.invariant c.requires.knows c.loop-done-test.true c.next_group-group.result c.next_group-group.ensures in
    omega (arith, t.least, t.most)

pub loop-done-preserved : goal.loop-done-preserved
loop-done-preserved c =
    let t = turn _ _ _ _ _ _ _ _ _ c.loop-done.invariant c.requires.knows c.loop-done-test.true c.next_group-group.result c.next_group-group.ensures in
    t.further _ _ _ c.put_group.auto.payload c.take-taken.ensures.1 c.take-taken.ensures.0 c.if-group-x.false c.put_group.ensures

pub returns : goal.returns
returns c = along_all _ _ _ _ _ _ _ _ _ c.loop-done.invariant (omega (arith, c.loop-done.invariant.passed, c.loop-done-test.false))
