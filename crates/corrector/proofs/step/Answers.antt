-- `corrector::step` meets its contract.
use mathlib.Core.Path.{◌≡◌, ap, ◌∙◌}
use native.Mathlib.Omega.{arith}
use mir.Val.{Fits}
use mir.Syntax.{w8}
use Prim.Native.Nat.{ℕ, ◌+◌, ◌<◌}
use mathlib.Core.List.{List}
use lib.ListN.{length, get_or}
use Rattle.field.specs.Field.{mul_n}
use Rattle.field.proofs.Byte.{elt}
use Rattle.theory.proofs.Run.{act}
use Rattle.theory.proofs.Gf.{gf256}
use Rattle.corrector.specs.declared.State.{State}
use Rattle.corrector.specs.Lanes.{poly, Running}
use Rattle.corrector.proofs.Running.{Seen, running_keep, running_mend, running_grow}
use borrow.Author.Rules.{rules}
use Rattle.corrector.proofs.Rows.{row}
use Rattle.corrector.proofs.step.Goals as goal

seen :
    (st : State) {s : List ℕ} {d : ℕ} → length st.a ≡ 32 → ((k : ℕ) → Fits w8 (get_or st.a k 0)) → length st.b ≡ 32 → ((k : ℕ) → Fits w8 (get_or st.b k 0)) → Fits w8 st.e → Fits w8 d
    → st.i + st.l < 30 → Running s st.i st.l st.a st.b st.e → elt d ≡ act gf256 32 (poly st.a) (poly s) st.i → Seen s st.a st.b st.i st.l st.e d
seen st la fa lb fb fe fd small run disc = record { ra = row st.a la fa; rb = row st.b lb fb; be = omega (arith, fe); bd = omega (arith, fd); small = small; run = run; disc = disc }

pub returns-then-d-eq0 : goal.returns-then-d-eq0
returns-then-d-eq0 c = let w : Seen c.args.s c.args.st.a c.args.st.b c.args.st.i c.args.st.l c.args.st.e c.window-d.result =
    seen c.args.st (search rules) (λ k. search rules) (search rules) (λ k. search rules) (search rules) (search rules) (omega arith) c.requires.0 c.window-d.ensures in
    (running_keep w c.if-d-eq0.true, omega arith, c.requires.2)

pub returns-then-st : goal.returns-then-st
returns-then-st c = let w : Seen c.args.s c.args.st.a c.args.st.b c.args.st.i c.args.st.l c.args.st.e c.window-d.result =
    seen c.args.st (search rules) (λ k. search rules) (search rules) (λ k. search rules) (search rules) (search rules) (omega arith) c.requires.0 c.window-d.ensures in (
      running_mend w c.mul-q.result c.mixed-mended.result (c.mul-q.ensures ∙ ap (mul_n _) c.requires.2) c.if-st.true c.mixed-mended.ensures,
      omega arith,
      c.requires.2,
    )

pub returns-else-st : goal.returns-else-st
returns-else-st c = let w : Seen c.args.s c.args.st.a c.args.st.b c.args.st.i c.args.st.l c.args.st.e c.window-d.result =
    seen c.args.st (search rules) (λ k. search rules) (search rules) (λ k. search rules) (search rules) (search rules) (omega arith) c.requires.0 c.window-d.ensures in (
      running_grow w c.mul-q.result c.mixed-grown.result (c.mul-q.ensures ∙ ap (mul_n _) c.requires.2) c.if-st.false c.if-d-eq0.false c.mixed-grown.ensures,
      omega arith,
      c.inv.ensures,
    )
