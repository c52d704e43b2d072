-- `writer::lay_message` meets its contract: the part that `send_message` filled is the part that `lay` reads.
use mathlib.Core.Path.{◌≡◌, refl, sym, ap, ◌∙◌}
use Prim.Native.Nat.{ℕ, ◌≤◌}
use native.Mathlib.Omega.{arith}
use lib.ListN.{length}
use lib.Seq.{length-take-le}
use Rattle.tables.specs.Tables.{Lawful, total, most_codewords}
use Rattle.tables.proofs.Rules.{total_most}
use Rattle.writer.proofs.Steps.{stands}
use Rattle.writer.proofs.lay_message.Goals as goal

few : (v level t : ℕ) → Lawful v level → t ≡ total v → t ≤ most_codewords
few v level t lawful e = omega (arith, total_most v lawful.least lawful.most)

pub slice_bounds-send_message-end : goal.slice_bounds-send_message-end
slice_bounds-send_message-end c =
    let words_few = few _ c.args.level _ c.requires.0 c.total-t.ensures in
    omega (arith, words_few, c.requires.1.1.words_long)

pub slice_bounds-send_message-end-2 : goal.slice_bounds-send_message-end-2
slice_bounds-send_message-end-2 c =
    let words_few = few _ c.args.level _ c.requires.0 c.total-t.ensures in
    sym (length-take-le _ _ (omega (arith, words_few, c.requires.1.1.words_long)))

pub send_message-requires : goal.send_message-requires
send_message-requires c =
    let words_few = few _ c.args.level _ c.requires.0 c.total-t.ensures in
    (c.requires.0, (c.requires.1.0, (c.requires.1.1.held_long, length-take-le _ _ (omega (arith, words_few, c.requires.1.1.words_long)) ∙ c.total-t.ensures)))

pub slice_bounds-lay-end : goal.slice_bounds-lay-end
slice_bounds-lay-end c =
    let words_few = few _ c.args.level _ c.requires.0 c.total-t.ensures in
    let filled = c.send_message.auto.out ∙ length-take-le _ _ (omega (arith, words_few, c.requires.1.1.words_long)) in
    (stands _ c.send_message.new.out _ _ refl filled).long

pub slice_bounds-lay-end-2 : goal.slice_bounds-lay-end-2
slice_bounds-lay-end-2 c =
    let words_few = few _ c.args.level _ c.requires.0 c.total-t.ensures in
    let filled = c.send_message.auto.out ∙ length-take-le _ _ (omega (arith, words_few, c.requires.1.1.words_long)) in
    sym (ap length (stands _ c.send_message.new.out _ _ refl filled).before ∙ filled)
