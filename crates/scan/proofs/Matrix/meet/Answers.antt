-- `scan::Matrix::meet` meets its contract: the kinds tell whether the module met is a data module.
use mathlib.Core.Path.{◌≡◌, sym, ap, ◌∙◌}
use mathlib.Core.List.{List}
use Prim.Native.Nat.{ℕ, ◌+◌, ◌*◌, ◌<◌}
use lib.Dec.{eqb}
use lib.ListN.{get_or}
use borrow.Author.Tests.{eq-eqb, ne_eqb}
use Rattle.tables.specs.Tables.{side}
use Rattle.modules.specs.Modules.{walk, is_data}
use Rattle.scan.specs.Scan.{DataMap}
use Rattle.scan.proofs.Reading.{inside, plain_place, walked_in, walked_past}
use Rattle.scan.proofs.Matrix.meet.Goals as goal

told : (v i j k : ℕ) (kinds : List ℕ) → DataMap v kinds → i < side v → j < side v → i * side v + j ≡ walk (side v) k
    → eqb (get_or kinds (i * side v + j) 0) 2 ≡ is_data v (walk (side v) k)
told v i j k kinds d hi hj e = d.tells (i * side v + j) (inside (side v) i j hi hj) ∙ ap (is_data v) e

pub returns-then-self-p-ne-DATA-clause-walked : goal.returns-then-self-p-ne-DATA-clause-walked
returns-then-self-p-ne-DATA-clause-walked c =
    λ k e w.
    let v : ℕ = c.args.self.v in
    let other = rw c.side.ensures at c.if-self-p-ne-DATA.true in
    let past = sym (told v c.args.row c.args.column k c.args.self.kinds.now c.args.self.ready.marked c.requires.inside.0 c.requires.inside.1 e) ∙ ne_eqb _ 2 other in
    walked_past v c.args.self.rows.now c.args.self.m.now k c.args.n c.args.out.now w past

pub returns-clause-walked : goal.returns-clause-walked
returns-clause-walked c =
    λ k e w.
    let v : ℕ = c.args.self.v in
    let rows = c.args.self.rows.now in
    let m = c.args.self.m.now in
    let same = rw c.side.ensures at c.if-self-p-ne-DATA.false in
    let met = sym (told v c.args.row c.args.column k c.args.self.kinds.now c.args.self.ready.marked c.requires.inside.0 c.requires.inside.1 e) ∙ eq-eqb _ 2 same in
    let unmasked = rw (c.side.ensures, e) at c.unmask.ensures in
    walked_in v rows m k c.args.n c.unmask.result c.args.out.now w met (unmasked ∙ plain_place v rows m c.args.row c.args.column (walk (side v) k) c.requires.inside.1 e)
    c.requires.room
