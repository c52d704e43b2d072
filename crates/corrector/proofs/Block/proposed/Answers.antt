-- `corrector::Block::proposed` meets its contract.
use native.Mathlib.Omega.{arith}
use mir.Val.{Fits}
use mir.Syntax.{w8}
use lib.ListN.{length, get_or}
use mathlib.Core.Path.{◌≡◌}
use mathlib.Core.List.{List}
use Prim.Native.Nat.{ℕ, ◌+◌, ◌-◌, ◌≤◌}
use Rattle.corrector.specs.declared.State.{State}
use Rattle.corrector.specs.declared.Listed.{Listed}
use Rattle.corrector.specs.Correct.{Asked}
use Rattle.corrector.specs.Lanes.{Running}
use Rattle.corrector.specs.Places.{Erased, Found}
use Rattle.corrector.proofs.Finding.{Traced, counted, listed_place, right}
use borrow.Author.Rules.{rules}
use Rattle.corrector.proofs.Block.proposed.Goals as goal

-- what is known once the suspected places are listed
traced :
    (st : State) (found : Listed) {w flags s left : List ℕ} {n e : ℕ}
    → length flags ≡ length w → length flags ≤ 255 → Asked w flags s n e → Erased s flags left → Running left st.i st.l st.a st.b st.e → st.i + st.l ≡ n - e → Found flags st.a 0 found.at found.xs found.count
    → Traced w flags s left st.a st.b n e st.i st.l st.e found.at found.xs found.count
traced st found flagged short asked folded run whole listed = record { flagged = flagged; short = short; asked = asked; folded = folded; run = run; whole = whole; found = listed }

pub returns-then-n-found : goal.returns-then-n-found
returns-then-n-found c = let k =
    traced c.run-st.result c.suspected-found.result c.args.self.flagged c.args.self.short c.requires
    c.erased.ensures c.run-st.ensures.0 c.run-st.ensures.1 c.suspected-found.ensures in
    λ room c' t e small st. absurd (omega (arith, counted k small st))

pub mended-requires : goal.mended-requires
mended-requires c = let k =
    traced c.run-st.result c.suspected-found.result c.args.self.flagged c.args.self.short c.requires
    c.erased.ensures c.run-st.ensures.0 c.run-st.ensures.1 c.suspected-found.ensures in
    λ h l. omega (arith, listed_place k (omega arith) h l)

pub returns : goal.returns
returns c = let k =
    traced c.run-st.result c.suspected-found.result c.args.self.flagged c.args.self.short c.requires
    c.erased.ensures c.run-st.ensures.0 c.run-st.ensures.1 c.suspected-found.ensures in
    let v = c.magnitudes-wrong.result in
    let r = c.mended.result in
    λ room c' t e small st. right k small st v r c.magnitudes-wrong.ensures c.mended.ensures (λ h. let f : Fits w8 (get_or r h 0) = search rules in omega (arith, f))
