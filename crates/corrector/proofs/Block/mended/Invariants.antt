-- `corrector::Block::mended` meets its contract.
use Rattle.std.proofs.Common.{◌≡◌, length}
use Rattle.corrector.specs.Places.{Mended}
use Rattle.corrector.proofs.Block.mended.Given as goal

abbrev pub invariant-loop-k : goal.invariant-loop-k
invariant-loop-k l = (length l.r ≡ 255) × Mended l.self.word.now l.found.at l.values l.k l.r
