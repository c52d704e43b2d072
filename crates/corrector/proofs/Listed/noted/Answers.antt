-- `corrector::Listed::noted` meets its contract.
use mathlib.Core.Path.{◌≡◌, ◌∙◌}
use mathlib.Core.Bool.{true, not, ◌||◌}
use lib.Dec.{eqb}
use borrow.Author.Tests.{eq-eqb, ne_eqb}
use Rattle.corrector.proofs.Listing.{found_pass, found_more}
use Rattle.corrector.proofs.Listed.noted.Goals as goal
use Rattle.corrector.proofs.Listed.noted.Goals.{else-flag-eq0-via-then-flag-eq0+else-v-ne0, else-flag-eq0-via-else-flag-eq0}

pub returns-then-v-ne0 : goal.returns-then-v-ne0
returns-then-v-ne0 c = λ flags a l e p f. found_pass f (e ∙ rw (eq-eqb _ _ c.if-flag-eq0.true, ne_eqb _ _ c.if-v-ne0.true))

pub returns : goal.returns
returns c =
    let t : not (eqb c.args.flag 0) || eqb c.args.v 0 ≡ true =
    elim c.else-flag-eq0.branch [
      | else-flag-eq0-via-then-flag-eq0+else-v-ne0 w ↦ rw (eq-eqb _ _ w.if-flag-eq0.true, eq-eqb _ _ w.if-v-ne0.false)
      | else-flag-eq0-via-else-flag-eq0 w ↦ rw (ne_eqb _ _ w.if-flag-eq0.false)
    ] in
    λ flags a l e p f. found_more f c.args.x (e ∙ t) c.if-self-eq31.false p
