-- `blocks::Sizes::deal_blocks` meets its contract. The invariant: the first b blocks are at their places.
use Rattle.std.proofs.Common.{◌≡◌, ◌<◌, take, arith}
use Rattle.tables.specs.Tables.{block_count, data_count}
use Rattle.blocks.proofs.Behind.{length_front_data, held_part, checks_part, all_front, both_parts}
use Rattle.blocks.proofs.Sent.{sent_none, sent_more, sent_all}
use Rattle.blocks.proofs.Sizes.deal_blocks.Goals as goal

pub loop-b-init : goal.loop-b-init
loop-b-init c = let s = c.args.self in sent_none s.v s.level _ c.args.out.now

pub loop-b-preserved : goal.loop-b-preserved
loop-b-preserved c =
    let l = c.loop-b in
    let s = c.args.self in
    let v = s.v in
    let level = s.level in
    let words = c.args.words.now in
    let codewords = take (data_count v level) words in
    let next : l.b < block_count v level = omega arith in
    let long = length_front_data v level s.lawful words c.requires.lens.0 in
    let held =
    held_part v level s.lawful codewords long words _ (block_count v level) l.b c.start-a.result c.data.result (all_front v level s.lawful codewords long words c.requires.words_value) next
    c.start-a.ensures c.data.ensures in
    let made = checks_part v level s.lawful codewords long words l.b c.behind-c.result s.checks c.requires.words_value next c.behind-c.ensures s.of_checks in
    (sent_more v level s.lawful codewords long l.out l.b next (omega arith) c.deal_block.new.out _ l.invariant (both_parts v level codewords _ _ l.b held made) c.deal_block.ensures).1

pub returns : goal.returns
returns c =
    let l = c.loop-b in
    let s = c.args.self in
    let all : l.b ≡ block_count s.v s.level = omega arith in
    sent_all s.v s.level s.lawful _ (length_front_data s.v s.level s.lawful c.args.words.now c.requires.lens.0) l.out
    (omega arith) (rw all at l.invariant)
