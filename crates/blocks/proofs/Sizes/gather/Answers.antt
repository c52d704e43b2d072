-- `blocks::Sizes::gather` meets its contract. The invariant: the first blocks are gathered, one after the other, and the rest is as it was.
use Rattle.std.proofs.Common.{refl, sym, ◌∙◌, get_or, arith}
use native.Mathlib.Numerals.{add-one}
use Rattle.basics.specs.Sums.{sum}
use Rattle.tables.specs.Tables.{block_length}
use Rattle.tables.proofs.Rules.{length_sum}
use Rattle.blocks.specs.Blocks.{gathered, gathered_all, block_offset}
use Rattle.blocks.proofs.Cuts.{fill_none, fill_more, fill_all}
use Rattle.blocks.proofs.Dealing.{length_gathered, offset_sum, offset_next}
use Rattle.blocks.proofs.Sizes.gather.Goals as goal

pub loop-block-init : goal.loop-block-init
unfolding block_offset sum
loop-block-init c = record { place = refl; done = fill_none _ _ }

pub loop-block-preserved : goal.loop-block-preserved
loop-block-preserved c =
    let s = c.args.self in
    let l = c.loop-block in
    let i = l.invariant in
    record {
      place = rw add-one (omega (arith, i.place, offset_next s.v s.level l.block));
      done = fill_more (gathered s.v s.level (λ q. get_or c.args.received.now q 0)) (block_length s.v s.level) l.out c.args.out.now c.gather_block.new.out l.block l.a
          c.codewords.result (λ j h. length_gathered s.v s.level _ j) (offset_sum _ _ _ _ i.place) i.done c.gather_block.ensures;
    }

pub returns : goal.returns
unfolding gathered_all
returns c =
    let s = c.args.self in
    let l = c.loop-block in
    fill_all (gathered s.v s.level (λ q. get_or c.args.received.now q 0)) (block_length s.v s.level) l.out c.args.out.now l.block l.a _ l.invariant.done
    (offset_sum _ _ _ _ l.invariant.place) (omega arith) (length_sum s.v s.level s.lawful ∙ sym c.requires.1)
