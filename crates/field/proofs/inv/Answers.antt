-- `field::inv` meets its contract: after that many turns the product times the even powers that are left is the inverse.
use mathlib.Core.Path.{◌≡◌, sym, ◌∙◌}
use Prim.Native.Nat.{ℕ, suc, ◌+◌, ◌-◌, ◌<◌}
use native.Mathlib.Omega.{arith}
use borrow.Author.Rules.{rules}
use Rattle.field.specs.Field.{mul_n, even_powers, inv_n}
use Rattle.field.proofs.Laws.{mul_assoc, mul_one, one_mul, mul_lt, inv_lt}
use Rattle.field.proofs.inv.Goals as goal

turn : (product s k left p t : ℕ) {r : ℕ} → left ≡ suc k → product < 256 → s < 256 → t ≡ mul_n s s → p ≡ mul_n product t
    → mul_n product (even_powers left s) ≡ r → mul_n p (even_powers k t) ≡ r
unfolding even_powers
turn product s k left p t n hp hs e f i =
    rw (f, e) (mul_assoc product (mul_n s s) (even_powers k (mul_n s s)) hp (mul_lt s s hs) ∙ (rw n at i))

pub loop-init : goal.loop-init
unfolding inv_n
loop-init c = (search rules, search rules, one_mul _ (inv_lt c.args.a (search rules)))

pub loop-preserved : goal.loop-preserved
loop-preserved c =
    let l = c.loop in (
      search rules,
      search rules,
      turn l.product l.square (7 - (l.counter + 1)) (7 - l.counter) _ _ (omega arith) l.invariant.0 l.invariant.1 c.mul-square.ensures c.mul-product.ensures l.invariant.2,
    )

pub returns : goal.returns
unfolding even_powers
returns c =
    let l = c.loop in
    let none : 7 - l.counter ≡ 0 = omega arith in
    sym (mul_one _ l.invariant.0) ∙ (rw none at l.invariant.2)
