-- `corrector::total` meets its contract.
use Rattle.std.proofs.Common.{rules}
use Rattle.std.specs.Int.Bits.{bit_xor}
use Rattle.std.proofs.lemmas.Iterator.{YieldsList-from_slice}
use Rattle.std.proofs.lemmas.Iterator.Consumers.{fold_from_yields_List}
use Rattle.corrector.proofs.Rows.{totalled}
use Rattle.corrector.proofs.total.Goals as goal

pub returns : goal.returns
returns c =
    totalled c.args.a c.fold.result (search rules)
    (fold_from_yields_List _ bit_xor 0 c.fold.result c.fold.ensures.ran (YieldsList-from_slice c.args.a cc) (λ a x b q k. search rules))
