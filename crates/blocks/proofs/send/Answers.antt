-- `blocks::send` meets its contract: the data in front is as it was when the blocks are dealt.
use mathlib.Core.Path.{◌≡◌, sym, ap, ◌∙◌}
use mathlib.Core.List.{List}
use Prim.Native.Nat.{ℕ}
use lib.ListN.{length, take}
use Rattle.tables.specs.Tables.{total, data_count, Lawful}
use Rattle.blocks.specs.Blocks.{data_then_checks, sent}
use Rattle.blocks.proofs.Behind.{length_front_data, data_first}
use Rattle.blocks.proofs.send.Goals as goal

-- the data in front is as it was
same_data : (v level : ℕ) → Lawful v level → (words after : List ℕ) → length words ≡ total v → after ≡ data_then_checks v level (take (data_count v level) words)
    → take (data_count v level) after ≡ take (data_count v level) words
same_data v level lawful words after h e = data_first v level lawful _ (length_front_data v level lawful words h) after e

pub deal_blocks-requires-clause-words_value : goal.deal_blocks-requires-clause-words_value
deal_blocks-requires-clause-words_value c =
    let s = c.of-s.result in
    c.add_checks.ensures ∙ ap (data_then_checks s.v s.level) (sym (same_data s.v s.level s.lawful _ _ (rw c.of-s.ensures.0 c.requires.1.0) c.add_checks.ensures))

pub returns-clause-out_after : goal.returns-clause-out_after
returns-clause-out_after c =
    let s = c.of-s.result in
    rw (c.of-s.ensures.0, c.of-s.ensures.1) at
    (c.deal_blocks.ensures ∙ ap (sent s.v s.level) (same_data s.v s.level s.lawful _ _ (rw c.of-s.ensures.0 c.requires.1.0) c.add_checks.ensures))
