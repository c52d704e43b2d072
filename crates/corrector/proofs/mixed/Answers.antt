-- `corrector::mixed` meets its contract.
use mathlib.Core.Path.{ap₂, ◌∙◌}
use Rattle.corrector.specs.Lanes.{filled, times_plus}
use Rattle.corrector.proofs.mixed.Goals as goal

pub returns : goal.returns
unfolding filled
returns c = c.times_plus.ensures ∙ ap₂ (λ low high. times_plus low (filled c.args.q) high) c.raise.ensures c.raise-2.ensures
