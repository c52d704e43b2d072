-- `corrector::without` meets its contract.
use mathlib.Core.Path.{ap, ◌∙◌}
use borrow.Author.Tests.{ne_eqb}
use Rattle.corrector.specs.Lanes.{filled, times_plus}
use Rattle.corrector.proofs.without.Goals as goal

pub returns-else-flag-eq0 : goal.returns-else-flag-eq0
unfolding filled
returns-else-flag-eq0 c = rw (ne_eqb _ _ c.if-flag-eq0.false) (c.times_plus.ensures ∙ ap (λ t. times_plus c.args.s (filled c.args.x) t) c.lower.ensures)
