-- All is put but the bits of the characters that are left.
use Rattle.std.proofs.Common.{◌*◌, drop}
use Rattle.stream.specs.Put.{group_bits}
use Rattle.stream.proofs.Put.{Going}
use Rattle.stream.proofs.BitWriter.put_groups.Given as goal

abbrev pub invariant-loop-group : goal.invariant-loop-group
invariant-loop-group g l = Going l.initial.self (group_bits l.base l.widths l.chars) l.self (group_bits l.base l.widths (drop (l.group-index * g.row.N) l.chars))
