-- `blocks::Sizes::take_data` meets its contract. The invariant: the data of the first b blocks is copied, and the rest is as it was.
use Rattle.std.proofs.Common.{◌≡◌, ℕ, List, ◌<◌, ◌+◌, refl, sym, ap, ◌∙◌, take, arith}
use native.Mathlib.Numerals.{add-one}
use Rattle.basics.specs.Sums.{sum}
use Rattle.tables.specs.Tables.{block_count, block_data, block_start}
use Rattle.tables.proofs.Rules.{data_sum, block_next}
use Rattle.blocks.specs.Blocks.{block_of, data_of}
use Rattle.blocks.proofs.Cuts.{filled, fill_none, fill_more, fill_all}
use Rattle.blocks.proofs.Dealing.{length_data, start_sum, the_data}
use Rattle.blocks.proofs.Sizes.take_data.Goals as goal

pub loop-b-init : goal.loop-b-init
unfolding block_start sum
loop-b-init c = fill_none _ _

pub loop-b-preserved : goal.loop-b-preserved
loop-b-preserved c =
    let s = c.args.self in
    let l = c.loop-b in
    let whole = c.args.blocks.now in
    let f : ℕ → List ℕ = λ b. take (block_data s.v s.level b) (block_of s.v s.level whole b) in
    let a = c.start-a.result in
    let n = c.data-n.result in
    let next : l.b < block_count s.v s.level = omega arith in
    let end : a + n ≡ block_start s.v s.level (l.b + 1) = rw add-one (omega (arith, c.start-a.ensures, c.data-n.ensures, block_next s.v s.level l.b)) in
    fill_more f (block_data s.v s.level) l.out c.args.out.now c.copy_from_slice.new.self l.b a n
    (λ j h. length_data s.v s.level s.lawful whole c.requires.0 j (omega arith)) (start_sum _ _ _ _ c.start-a.ensures) (rw (sym c.start-a.ensures) at l.invariant)
    (c.copy_from_slice.ensures.after ∙ the_data s.v s.level whole l.b c.offset-w.result n c.offset-w.ensures c.data-n.ensures)
    ∙ ap (filled f c.args.out.now (l.b + 1)) end

pub returns : goal.returns
unfolding data_of
returns c =
    let s = c.args.self in
    let l = c.loop-b in
    fill_all (λ b. take (block_data s.v s.level b) (block_of s.v s.level c.args.blocks.now b)) (block_data s.v s.level) l.out c.args.out.now l.b _ _
    l.invariant (start_sum _ _ _ _ refl) (omega arith)
    (sym (start_sum _ _ _ _ (sym (data_sum s.v s.level s.lawful))) ∙ sym c.requires.1)
