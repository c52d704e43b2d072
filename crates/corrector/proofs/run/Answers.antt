-- `corrector::run` meets its contract.
use Rattle.std.proofs.Common.{refl}
use Rattle.corrector.proofs.Running.{running_start, inverse_start}
use Rattle.corrector.proofs.run.Goals as goal

pub loop-init : goal.loop-init
loop-init c = (running_start c.args.s, refl, inverse_start)
