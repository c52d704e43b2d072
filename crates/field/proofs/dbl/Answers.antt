-- `field::dbl` meets its contract: the code and the definition are the same at each of the 256 bytes.
use Prim.Native.Nat.{◌*◌, ◌/◌, ◌%◌}
use lib.Bits.{bit_xor}
use Rattle.field.specs.Field.{dbl_n}
use Rattle.basics.proofs.Test.{same_1}
use borrow.Author.Rules.{rules}
use Rattle.field.proofs.dbl.Goals as goal

pub returns : goal.returns
unfolding dbl_n
returns c = rw c.pick.ensures (same_1 256 (λ a. bit_xor (a * 2 % 256) (a / 128 % 2 * 29)) dbl_n tt c.args.a (search rules))
