-- `field::mul` meets its contract: after the turn of a place the product is a times the bits of b from that place up.
use mathlib.Core.Path.{◌≡◌, refl, ◌∙◌}
use Prim.Native.Nat.{ℕ, suc, ◌+◌, ◌-◌, ◌*◌, ◌/◌, ◌%◌, ◌^◌}
use native.Mathlib.Nat.{div-one}
use native.Mathlib.Omega.{arith}
use lib.Arith.{le-zero}
use lib.Bits.{bit_xor}
use lib.Pow.{shr-shr}
use Rattle.field.specs.Field.{dbl_n, mul_bits, mul_n}
use Rattle.field.proofs.mul.Goals as goal

more : (k j n m a b : ℕ) {p r : ℕ} → n ≡ j + 1 → m ≡ suc k → p ≡ mul_bits k a (b / 2 ^ n) → r ≡ bit_xor (b / 2 ^ j % 2 * a) (dbl_n p)
    → r ≡ mul_bits m a (b / 2 ^ j)
unfolding mul_bits
more k j n m a b en em e f = f ∙ rw (e, en, em, shr-shr b j 1)

all : (a b : ℕ) {n p : ℕ} → n ≡ 0 → p ≡ mul_bits (8 - n) a (b / 2 ^ n) → p ≡ mul_n a b
unfolding mul_n
all a b {n = n} en e = e ∙ rw (en, div-one)

pub loop-place-init : goal.loop-place-init
unfolding mul_bits
loop-place-init c = refl

pub loop-place-preserved : goal.loop-place-preserved
loop-place-preserved c =
    let n = c.loop-place.place in
    more (8 - n) (n - 1) n (8 - (n - 1)) c.args.a c.args.b (omega arith) (omega arith) c.loop-place.invariant (rw (c.dbl.ensures, c.pick.ensures))

pub returns : goal.returns
returns c = all c.args.a c.args.b (le-zero c.loop-place-test.false) c.loop-place.invariant
