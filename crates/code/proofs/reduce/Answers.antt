-- `code::reduce` meets its contract: the closure gives each coefficient.
use Rattle.std.proofs.Common.{ℕ, refl, ◌∙◌, ltb, cond, rules, tests, arith}
use Rattle.basics.proofs.Made.{made}
use Rattle.code.specs.Lanes.{reduced}
use Rattle.code.proofs.Lanes.{build_zero}
use Rattle.code.proofs.reduce.Goals as goal

pub returns : goal.returns
unfolding reduced
returns c =
    let f = λ (k : ℕ). reduced c.args.r c.args.g c.args.d k in
    made _ _ (λ k. cond (ltb k 32) (f k) 0) (λ k v g call. (grind (arith, tests), search rules)) _ 33 c.from_fn.ensures.items
    ∙ build_zero (λ k. cond (ltb k 32) (f k) 0) f 32 (λ k l. grind (arith, tests)) refl
