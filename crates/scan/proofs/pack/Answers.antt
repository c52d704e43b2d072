-- `scan::pack` meets its contract. The loop's invariant: the first q codewords and flags stand.
use mathlib.Core.Path.{◌≡◌, refl, ◌∙◌}
use Prim.Native.Nat.{ℕ, ◌+◌, ◌-◌, ◌*◌}
use native.Mathlib.Omega.{arith}
use lib.ListN.{length}
use borrow.Author.Rules.{rules}
use Rattle.basics.specs.Build.{build}
use Rattle.basics.specs.Sums.{one}
use Rattle.basics.proofs.Build.{build_put, build_all}
use Rattle.basics.proofs.Lists.{build_up_to}
use Rattle.scan.specs.Received.{eight, flag, codeword}
use Rattle.scan.proofs.Reading.{word_of, flag_of}
use Rattle.scan.proofs.pack.Goals as goal

pub loop-q-init : goal.loop-q-init
unfolding build
loop-q-init c = (refl, refl)

pub loop-q-preserved : goal.loop-q-preserved
unfolding eight
loop-q-preserved c =
    let l = c.loop-q in
    let bits = c.args.bits.now in
    let end : 8 * l.q + 8 - 8 * l.q ≡ 8 = omega arith in
    let read = rw end at c.eight-codeword.ensures in
    let flagged : c.from.result ≡ one c.is_none.result = search rules in (
      build_put (codeword bits) l.words l.q _ l.invariant.0 (omega arith) (c.unwrap_or.ensures ∙ word_of bits l.q _ read),
      build_put (flag bits) l.flags l.q _ l.invariant.1 (omega arith) (flagged ∙ flag_of bits l.q _ _ c.is_none.ensures read),
    )

pub returns : goal.returns
returns c =
    let l = c.loop-q in
    let bits = c.args.bits.now in
    let total : ℕ = length c.args.words.now in
    let done : l.q ≡ total = omega arith in (
      build_all (codeword bits) l.words total (omega arith) (rw done at l.invariant.0) ∙ build_up_to (codeword bits) total,
      build_all (flag bits) l.flags total (omega arith) (rw done at l.invariant.1) ∙ build_up_to (flag bits) total,
    )
