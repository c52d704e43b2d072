-- `field::pow` meets its contract: the power i is the product of the powers i/16·16 and i%16, which stand in the tables.
use mathlib.Core.Path.{ap, ◌∙◌}
use mathlib.Core.List.{List, [], ◌∷◌}
use Prim.Native.Nat.{ℕ, ◌*◌, ◌/◌, ◌%◌}
use native.Mathlib.Nat.{div-add-mod', mod-lt}
use native.Mathlib.Omega.{arith}
use lib.Dec.{T, lit<}
use lib.ListN.{get_or}
use Rattle.basics.proofs.Test.{same, same_1}
use Rattle.field.specs.Field.{pow_n}
use Rattle.field.proofs.Laws.{pow_add}
use Rattle.field.proofs.pow.Goals as goal

low : List ℕ
low = 1 ∷ 2 ∷ 4 ∷ 8 ∷ 16 ∷ 32 ∷ 64 ∷ 128 ∷ 29 ∷ 58 ∷ 116 ∷ 232 ∷ 205 ∷ 135 ∷ 19 ∷ 38 ∷ []

high : List ℕ
high = 1 ∷ 76 ∷ 157 ∷ 70 ∷ 95 ∷ 253 ∷ 217 ∷ 129 ∷ 133 ∷ 168 ∷ 230 ∷ 227 ∷ 130 ∷ 81 ∷ 18 ∷ 44 ∷ []

low_tested : T (same 16 (λ k. get_or low k 0) pow_n)
unfolding low pow_n
low_tested = tt

high_tested : T (same 16 (λ k. get_or high k 0) (λ k. pow_n (k * 16)))
unfolding high pow_n
high_tested = tt

pub returns : goal.returns
unfolding low high
returns c = let i : ℕ = c.args.i in
    c.mul.ensures
    ∙ rw (same_1 16 (λ k. get_or high k 0) (λ k. pow_n (k * 16)) high_tested (i / 16) (omega arith), same_1 16 (λ k. get_or low k 0) pow_n low_tested (i % 16) (mod-lt i (lit< tt)))
    (pow_add (i / 16 * 16) (i % 16) ∙ ap pow_n (div-add-mod' i 16))
