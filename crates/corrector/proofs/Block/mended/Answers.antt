-- `corrector::Block::mended` meets its contract: before the first value nothing has changed.
use Rattle.std.proofs.Common.{arith}
use Rattle.std.proofs.lemmas.Grind.{common_steps}
use Rattle.corrector.proofs.Mending.{mended_start}
use Rattle.corrector.proofs.Block.mended.Goals as goal

pub loop-k-init : goal.loop-k-init
loop-k-init c = (grind (arith, common_steps), mended_start c.args.self.word.now c.args.found.now.at c.args.values _ (λ j l. grind (arith, common_steps)))
