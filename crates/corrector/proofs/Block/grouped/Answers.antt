-- `corrector::Block::grouped` meets its contract.
use borrow.Author.Rules.{rules}
use native.Mathlib.Omega.{arith}
use mir.Val.{Fits}
use mir.Syntax.{w8}
use lib.ListN.{get_or}
use Rattle.corrector.proofs.Listing.{grouped_turn}
use Rattle.corrector.proofs.Block.grouped.Goals as goal

pub loop-i-preserved : goal.loop-i-preserved
loop-i-preserved c = let l = c.loop-i in
    let a = c.args in
    let r = c.noted-list.result in
    let bv : Fits w8 (get_or a.vs l.i 0) = search rules in
    grouped_turn a.self.flags.now a.vs a.xs a.top a.many l.i a.found.at a.found.xs a.found.count l.list.at l.list.xs l.list.count r.at r.xs r.count
    c.requires.0 c.requires.1 (omega arith) (omega (arith, bv)) c.noted-list.ensures l.invariant
