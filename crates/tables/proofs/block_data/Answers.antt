-- `tables::block_data` meets its contract.
use mathlib.Core.Path.{sym}
use Prim.Native.Nat.{◌≤◌, ◌<◌}
use native.Mathlib.Nat.{add-zero}
use native.Mathlib.Omega.{arith}
use borrow.Author.Tests.{le-leb, lt-leb}
use Rattle.tables.specs.Tables.{short_blocks, block_data}
use Rattle.tables.proofs.Rules.{long_most}
use Rattle.tables.proofs.block_data.Goals as goal

pub overflow_add-result : goal.overflow_add-result
overflow_add-result c = rw c.short_length-short.ensures (omega (arith, long_most c.args.v c.args.level c.requires))

pub returns-then-short_blocks-b : goal.returns-then-short_blocks-b
unfolding block_data
returns-then-short_blocks-b c = let h : short_blocks _ _ ≤ _ = rw c.short_blocks.ensures at c.if-short_blocks-b.true in
    rw (c.short_length-short.ensures, le-leb _ _ h)

pub returns-else-short_blocks-b : goal.returns-else-short_blocks-b
unfolding block_data
returns-else-short_blocks-b c = let h : _ < short_blocks _ _ = rw c.short_blocks.ensures at c.if-short_blocks-b.false in
    rw (c.short_length-short.ensures, lt-leb _ _ h) (sym (add-zero _))
