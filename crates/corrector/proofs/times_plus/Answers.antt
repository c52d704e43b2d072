-- `corrector::times_plus` meets its contract.
use Rattle.std.proofs.Common.{rules}
use Rattle.basics.proofs.Made.{made}
use Rattle.corrector.specs.Lanes.{times_plus}
use Rattle.corrector.proofs.times_plus.Goals as goal

pub returns : goal.returns
unfolding times_plus
returns c = made _ _ _ (λ i r f' k. search rules) c.from_fn.result 32 c.from_fn.ensures.items
