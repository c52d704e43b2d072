-- `symbolfile::modules_of` meets its contract: each byte that is not the mark's makes the file no symbol file, and then the length decides.
use Rattle.std.proofs.Common.{arith, tests}
use Rattle.symbolfile.specs.SymbolFile.{mark}
use Rattle.symbolfile.proofs.Files.{no_short, no_wrong, right_length, wrong_length}
use Rattle.symbolfile.proofs.modules_of.Goals as goal
use Rattle.symbolfile.proofs.modules_of.Goals.{in_default-via-then-file-lt6, in_default-via-else-file-lt6+in-75+in-81+in-83+in-0+in_default-1, in_default-via-else-file-lt6+in-75+in-81+in-83+in_default-1, in_default-via-else-file-lt6+in-75+in-81+in_default-1, in_default-via-else-file-lt6+in-75+in_default-1, in_default-via-else-file-lt6+in_default-1}

pub returns-in_default : goal.returns-in_default
unfolding mark
returns-in_default c =
    elim c.in_default.branch [
      | in_default-via-then-file-lt6 w ↦ no_short _ (grind (arith, tests))
      | in_default-via-else-file-lt6+in-75+in-81+in-83+in-0+in_default-1 w ↦ no_wrong _ 4 (omega arith) (omega arith)
      | in_default-via-else-file-lt6+in-75+in-81+in-83+in_default-1 w ↦ no_wrong _ 3 (omega arith) (omega arith)
      | in_default-via-else-file-lt6+in-75+in-81+in_default-1 w ↦ no_wrong _ 2 (omega arith) (omega arith)
      | in_default-via-else-file-lt6+in-75+in_default-1 w ↦ no_wrong _ 1 (omega arith) (omega arith)
      | in_default-via-else-file-lt6+in_default-1 w ↦ no_wrong _ 0 (omega arith) (omega arith)
    ]

pub returns-then-modules-side : goal.returns-then-modules-side
returns-then-modules-side c =
    right_length _ (omega arith) (omega arith) (omega arith) (omega arith) (omega arith) (omega arith) _ c.from-side.ensures c.if-modules-side.true

pub returns-else-modules-side : goal.returns-else-modules-side
returns-else-modules-side c =
    wrong_length _ (omega arith) (omega arith) (omega arith) (omega arith) (omega arith) (omega arith) _ c.from-side.ensures c.if-modules-side.false
