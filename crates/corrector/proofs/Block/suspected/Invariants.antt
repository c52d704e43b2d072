-- `corrector::Block::suspected` meets its contract.
use Rattle.std.proofs.Common.{◌*◌, ◌-◌, length}
use Rattle.corrector.specs.Places.{Found}
use Rattle.corrector.proofs.Rows.{Row}
use Rattle.corrector.proofs.Listing.{Located}
use Rattle.corrector.proofs.Block.suspected.Given as goal

abbrev pub invariant-loop-group : goal.invariant-loop-group
invariant-loop-group l =
    Row l.xs × Located (l.group * 32) l.xs × Found l.self.flags.now l.a.row (length l.self.flags.now - l.group * 32) l.found.at l.found.xs l.found.count
