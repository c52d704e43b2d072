-- `modules::Version::patterns` meets its contract: what is drawn is what the computed test compares with the version's kinds.
use mathlib.Core.Path.{◌∙◌}
use native.Mathlib.Omega.{arith}
use Rattle.modules.proofs.Drawn.{below_made, from_made, below_drawn, from_drawn}
use Rattle.modules.proofs.Version.patterns.Goals as goal

pub returns-else-self-ge-FIRST_WITH_WORD : goal.returns-else-self-ge-FIRST_WITH_WORD
returns-else-self-ge-FIRST_WITH_WORD c =
    below_made _ _ _ _ _ c.requires (c.fill.ensures.after (λ y e. e)) c.finders.ensures c.frame.ensures
    ∙ below_drawn c.args.self.v (omega arith) (omega arith)

pub returns-then-self-ge-FIRST_WITH_WORD : goal.returns-then-self-ge-FIRST_WITH_WORD
returns-then-self-ge-FIRST_WITH_WORD c =
    from_made _ _ _ _
    (below_made _ _ _ _ _ c.requires (c.fill.ensures.after (λ y e. e)) c.finders.ensures c.frame.ensures)
    (c.from.ensures ∙ c.version_word.ensures) c.versions.ensures
    ∙ from_drawn c.args.self.v (omega arith) (omega arith)
