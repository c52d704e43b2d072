-- `corrector::Listed::none` meets its contract.
use Rattle.std.proofs.Common.{refl}
use Rattle.corrector.specs.Lanes.{filled}
use Rattle.corrector.proofs.Listed.none.Goals as goal

pub returns : goal.returns
unfolding filled
returns c = (refl, refl, refl)
