-- All is put but the bits of the bytes that are left.
use Rattle.std.proofs.Common.{drop}
use Rattle.basics.specs.Bits.{byte_bits}
use Rattle.stream.proofs.Put.{Going}
use Rattle.stream.proofs.BitWriter.put_bytes.Given as goal

abbrev pub invariant-loop-c : goal.invariant-loop-c
invariant-loop-c l = Going l.initial.self (byte_bits l.chars) l.self (byte_bits (drop l.c-index l.chars))
