-- `tables::total` meets its contract: the definition's table has an empty row in front.
use mathlib.Core.Path.{◌∙◌}
use Rattle.tables.specs.Tables.{totals, total}
use Rattle.tables.proofs.Rules.{past_front}
use Rattle.tables.proofs.total.Goals as goal

pub returns : goal.returns
unfolding totals total
returns c = c.from.ensures ∙ past_front 0 totals c.args.v c.requires.0
