-- `words::Code::remainder` meets its contract. The loop's invariant: what is left has the remainder that is asked for.
use Rattle.std.proofs.Common.{◌≡◌}
use Rattle.words.specs.Words.{reduced}
use Rattle.words.proofs.Code.remainder.Given as goal

abbrev pub invariant-loop-i : goal.invariant-loop-i
invariant-loop-i l = reduced l.self.check_bits l.self.generator l.i l.rest ≡ reduced l.self.check_bits l.self.generator l.self.data_bits l.n
