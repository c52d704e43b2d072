-- The place lies within the file.
use Rattle.std.proofs.Common.{◌≤◌, length}
use Rattle.outside.proofs.try_all.Given as goal

abbrev pub invariant-loop : goal.invariant-loop
invariant-loop g l = l.at ≤ length l.file
