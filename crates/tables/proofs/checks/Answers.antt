-- `tables::checks` meets its contract: the definition's table has an empty row in front.
use mathlib.Core.Path.{ap, ◌∙◌}
use mathlib.Core.List.{List, []}
use Prim.Native.Nat.{ℕ}
use lib.ListN.{get_or}
use Rattle.tables.specs.Tables.{check_rows, check_count}
use Rattle.tables.proofs.Rules.{past_front}
use Rattle.tables.proofs.checks.Goals as goal

pub returns : goal.returns
unfolding check_rows check_count
returns c = c.from.ensures ∙ ap (λ (r : List ℕ). get_or r c.args.level 0) (past_front [] check_rows c.args.v c.requires.least)
