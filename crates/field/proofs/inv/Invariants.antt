-- `field::inv` meets its contract: after that many turns the product times the even powers that are left is the inverse.
use Rattle.std.proofs.Common.{◌≡◌, ◌-◌, ◌<◌}
use Rattle.field.specs.Field.{mul_n, even_powers, inv_n}
use Rattle.field.proofs.inv.Given as goal

abbrev pub invariant-loop : goal.invariant-loop
invariant-loop l = (l.product < 256) × (l.square < 256) × (mul_n l.product (even_powers (7 - l.counter) l.square) ≡ inv_n l.a)
