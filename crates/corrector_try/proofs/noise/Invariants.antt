-- The number stays below the modulus.
use Rattle.std.proofs.Common.{◌<◌}
use Rattle.corrector_try.proofs.noise.Given as goal

abbrev pub invariant-loop-byte : goal.invariant-loop-byte
invariant-loop-byte l = l.x < 65537
