-- `reader::mend_blocks` meets its contract: `Mending` says what the loop has done, and a turn is one law.
use Rattle.std.proofs.Common.{◌≡◌}
use Rattle.tables.specs.Tables.{room, block_count, check_count}
use Rattle.reader.proofs.Mending.{Mending}
use Rattle.reader.proofs.mend_blocks.Given as goal

abbrev pub invariant-loop-b : goal.invariant-loop-b
invariant-loop-b l =
    Mending l.v l.level l.initial.words l.flags l.a l.b l.words l.differing l.unreadable
    × (l.count ≡ block_count l.v l.level) × (l.n ≡ check_count l.v l.level) × (l.room ≡ room l.v l.level)
