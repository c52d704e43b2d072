-- `modules::Version::pair` meets its contract: the invariant: 2t modules of the pair are met.
use mathlib.Core.Path.{◌≡◌}
use Prim.Native.Nat.{◌*◌}
use Rattle.basics.specs.Bits.{byte_bits}
use Rattle.tables.specs.Tables.{side}
use Rattle.modules.specs.Kinds.{filling, put_all, pair_place}
use Rattle.modules.proofs.Version.pair.Given as goal

abbrev pub invariant-loop-t : goal.invariant-loop-t
invariant-loop-t l = filling l.base l.used ≡ put_all (byte_bits l.codewords) (pair_place (side l.fn.self.v) l.q) (2 * l.t) (filling l.initial.base l.n)
