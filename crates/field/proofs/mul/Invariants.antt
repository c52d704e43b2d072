-- `field::mul` meets its contract: after the turn of a place the product is a times the bits of b from that place up.
use Rattle.std.proofs.Common.{◌≡◌, ◌-◌, ◌/◌, ◌^◌}
use Rattle.field.specs.Field.{mul_bits}
use Rattle.field.proofs.mul.Given as goal

abbrev pub invariant-loop-place : goal.invariant-loop-place
invariant-loop-place l = l.product ≡ mul_bits (8 - l.place) l.a (l.b / 2 ^ l.place)
