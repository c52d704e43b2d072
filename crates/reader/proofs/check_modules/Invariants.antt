-- `reader::check_modules` meets its contract. The invariant: no module passed is larger than `most`, which is above 2 only where a module is.
use Rattle.std.proofs.Common.{ℕ, ◌≤◌, ◌<◌, get_or}
use Rattle.reader.specs.Reader.{Above}
use Rattle.reader.proofs.check_modules.Given as goal

abbrev pub invariant-loop-module : goal.invariant-loop-module
invariant-loop-module l = ((i : ℕ) → i < l.module-index → get_or l.m i 0 ≤ l.most) × (2 < l.most → Above l.m)
