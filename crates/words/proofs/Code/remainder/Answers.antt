-- `words::Code::remainder` meets its contract. The loop's invariant: what is left has the remainder that is asked for.
use native.Mathlib.Nat.{not-suc-le-zero, mul-le-mul_left, mod-eq_of_lt}
use native.Mathlib.Numerals.{sub-one}
use lib.Arith.{le-zero}
use lib.Pow.{pow_mono}
use lib.Bits.{bit_xor}
use mathlib.Core.Path.{◌≡◌, ◌∙◌}
use Prim.Native.Nat.{ℕ, zero, suc, ◌+◌, ◌-◌, ◌*◌, ◌/◌, ◌%◌, ◌^◌, ◌≤◌, ◌<◌}
use native.Mathlib.Omega.{arith}
use Rattle.words.specs.Words.{reduced}
use Rattle.words.proofs.Code.remainder.Goals as goal

shifted : (g i : ℕ) → g < 2 ^ 13 → i ≤ 6 → g * 2 ^ i < 2 ^ 32
shifted g i hg hi = let m : g * 2 ^ i ≤ g * 64 = mul-le-mul_left g (pow_mono {i = i} {j = 6} hi) in omega arith

turn : (k g i n : ℕ) → 0 < i → reduced k g (i - 1) (bit_xor n (n / 2 ^ (k + (i - 1)) % 2 * (g * 2 ^ (i - 1)))) ≡ reduced k g i n
unfolding reduced
turn k g zero n h = absurd (not-suc-le-zero h)
turn k g (suc i) n h = rw (sub-one (suc i))

pub loop-i-preserved : goal.loop-i-preserved
loop-i-preserved c = let l = c.loop-i in let code = c.args.self in
    rw (mod-eq_of_lt (shifted code.generator (l.i - 1) (omega arith) (omega arith)))
    (turn code.check_bits code.generator l.i l.rest (omega arith) ∙ l.invariant)

pub returns : goal.returns
unfolding reduced
returns c = rw (le-zero c.loop-i-test.false) at c.loop-i.invariant
