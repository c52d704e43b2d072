-- `modules::lay` meets its contract: the invariant: the first q column pairs have taken their bits, over the version's kinds.
use mathlib.Core.Path.{ap, ap₂}
use mathlib.Core.List.{List, [], ◌++◌}
use Prim.Native.Nat.{ℕ, ◌*◌}
use lib.ListN.{length, drop}
use native.Mathlib.Omega.{arith}
use Rattle.tables.specs.Tables.{side}
use Rattle.modules.proofs.Filling.{few_used, kinds_length, few_steps, pair_more, laid_all}
use Rattle.modules.proofs.lay.Goals as goal

pub pair-used-requires : goal.pair-used-requires
pair-used-requires c =
    let l = c.loop-q in
    let v = c.args.v in
    let few = few_used _ _ (l.q * (2 * side v)) _ _ _ _ l.invariant in
    let steps = few_steps v (omega arith) (omega arith) c.args.codewords.now l.q (omega arith) in
    let long = kinds_length v (omega arith) (omega arith) [] in
    (omega arith, (omega (arith, few, steps), omega (arith, long, ap length c.patterns.ensures)))

pub loop-q-preserved : goal.loop-q-preserved
loop-q-preserved c =
    let l = c.loop-q in
    pair_more c.args.v (omega arith) (omega arith) c.args.codewords.now l.q _ _ _ _ l.invariant c.pair-used.ensures

pub returns : goal.returns
returns c =
    let l = c.loop-q in
    ap₂ (λ (xs : List ℕ) (n : ℕ). xs ++ drop (n * n) c.args.base.now)
    (laid_all c.args.v (omega arith) (omega arith) c.args.codewords.now l.matrix l.used l.q (omega arith) l.invariant) c.side-s.ensures
