-- `corrector::window` meets its contract.
use mathlib.Core.Path.{ap, ◌∙◌}
use Rattle.theory.proofs.Sum.{sum}
use Rattle.theory.proofs.Gf.{gf256}
use Rattle.corrector.specs.Lanes.{filled, times_plus, poly}
use Rattle.corrector.proofs.Rows.{row, Row, windowed}
use borrow.Author.Rules.{rules}
use Rattle.corrector.proofs.window.Goals as goal

pub returns : goal.returns
unfolding filled
returns c = let a = c.args.a in
    let ra : Row a = row a (search rules) (λ h. search rules) in
    c.total.ensures
    ∙ ap (λ t. sum gf256 32 (poly t)) (c.times_plus.ensures ∙ ap (λ t. times_plus a t (filled 0)) c.lower.ensures)
    ∙ windowed a c.args.s c.args.i ra (search rules)
