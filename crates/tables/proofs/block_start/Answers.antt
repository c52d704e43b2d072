-- `tables::block_start` meets its contract: what a block starts at has a closed form, and is at most the data.
use mathlib.Core.Path.{sym}
use Prim.Native.Nat.{ℕ, ◌+◌, ◌-◌, ◌*◌, ◌≤◌}
use native.Mathlib.Omega.{arith}
use Rattle.tables.specs.Tables.{Lawful, block_count, short_length, short_blocks}
use Rattle.tables.proofs.Rules.{block_start_lem, block_start_later, data_sum, data_most}
use Rattle.tables.proofs.block_start.Goals as goal

start_most : (v level b : ℕ) → Lawful v level → b ≤ block_count v level → b * short_length v level + (b - short_blocks v level) ≤ 274
start_most v level b l h =
    omega (arith, block_start_lem v level b, block_start_later v level b (block_count v level) h, data_sum v level l, data_most v level l)

pub overflow_mul-result : goal.overflow_mul-result
overflow_mul-result c = rw c.short_length-short.ensures (omega (arith, start_most c.args.v c.args.level c.args.b c.requires.0 c.requires.1))

pub overflow_add-result : goal.overflow_add-result
overflow_add-result c =
    rw (c.short_length-short.ensures, c.saturating_sub.ensures, c.short_blocks-first.ensures)
    (omega (arith, start_most c.args.v c.args.level c.args.b c.requires.0 c.requires.1))

pub returns : goal.returns
returns c =
    rw (c.short_length-short.ensures, c.saturating_sub.ensures, c.short_blocks-first.ensures) (sym (block_start_lem c.args.v c.args.level c.args.b))
