-- `corrector::Block::erased` meets its contract.
use Rattle.std.proofs.Common.{◌≡◌, ◌-◌, length}
use Rattle.field.specs.Field.{pow_n}
use Rattle.corrector.proofs.Rows.{Row}
use Rattle.corrector.proofs.Erasing.{Erasing}
use Rattle.corrector.proofs.Block.erased.Given as goal

abbrev pub invariant-loop-flag : goal.invariant-loop-flag
invariant-loop-flag l = Row l.r × (l.x ≡ pow_n (length l.yielded)) × Erasing l.self.flags.now l.initial.r l.r (length l.self.flags.now - length l.yielded)
