-- `modules::lay` meets its contract: the invariant: the first q column pairs have taken their bits, over the version's kinds.
use mathlib.Core.Path.{◌≡◌}
use Prim.Native.Nat.{◌*◌}
use Rattle.basics.specs.Bits.{byte_bits}
use Rattle.tables.specs.Tables.{side}
use Rattle.modules.specs.Modules.{walk}
use Rattle.modules.specs.Kinds.{filling, kinds, put_all}
use Rattle.modules.proofs.lay.Given as goal

abbrev pub invariant-loop-q : goal.invariant-loop-q
invariant-loop-q l = filling l.matrix l.used ≡ put_all (byte_bits l.codewords) (walk (side l.v)) (l.q * (2 * side l.v)) (filling (kinds l.v) 0)
