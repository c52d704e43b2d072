-- `writer::draw_at` meets its contract: the part that is laid is the part that is finished.
use mathlib.Core.Path.{◌≡◌, refl, ap, ◌∙◌}
use mathlib.Core.List.{List, ◌++◌}
use Prim.Native.Nat.{ℕ, ◌*◌, ◌≤◌}
use native.Mathlib.Omega.{arith}
use lib.ListN.{length, take, drop}
use lib.Seq.{length-take-le}
use Rattle.tables.specs.Tables.{Lawful, side, most_modules}
use Rattle.stream.specs.Stream.{data_codewords}
use Rattle.blocks.specs.Blocks.{sent}
use Rattle.modules.specs.Kinds.{finished}
use Rattle.modules.proofs.Tints.{finished_laid}
use Rattle.writer.specs.Answer.{mask_drawn}
use Rattle.writer.proofs.Steps.{area_le, Stands, stands, laid_base, mask_chosen}
use Rattle.writer.proofs.draw_at.Goals as goal

-- the part of `base` that is laid, and what follows it
front : (v level s : ℕ) (written base : List ℕ) → Lawful v level → s ≡ side v → length base ≡ most_modules → length written ≡ length (take (s * s) base)
    → Stands (s * s) written (drop (s * s) base) (written ++ drop (s * s) base)
front v level s written base lawful e h l =
    let few : s * s ≤ most_modules = rw e (area_le v level lawful) in
    stands (s * s) written (drop (s * s) base) _ refl (l ∙ length-take-le (s * s) base (omega arith))

pub finish_drawn-requires : goal.finish_drawn-requires
finish_drawn-requires c =
    let p = c.requires in
    let m = front _ c.args.level _ _ _ p.0 c.side-s.ensures p.1.1.1.base_long c.lay_message.auto.base in
    (p.0, (rw (m.before ∙ c.lay_message.ensures) (laid_base _ _ _ p.0), (p.1.1.0, p.1.1.1.out_long)))

pub returns : goal.returns
returns c =
    let a = c.args in
    let p = c.requires in
    let m = front _ a.level _ _ _ p.0 c.side-s.ensures p.1.1.1.base_long c.lay_message.auto.base in
    let cs = sent a.v a.level (data_codewords a.v a.level a.list.now a.payload.now) in
    let e = m.before ∙ c.lay_message.ensures in
    record {
      choice = c.finish_drawn.ensures.choice ∙ ap (mask_drawn a.v a.level a.mask) e ∙ mask_chosen a.v a.level a.mask cs;
      drawing =
          c.finish_drawn.ensures.drawing
          ∙ ap (λ (b : List ℕ). b ++ drop (side a.v * side a.v) a.out.now)
          (ap (finished a.v a.level c.finish_drawn.result) e ∙ finished_laid a.v a.level c.finish_drawn.result cs);
    }
