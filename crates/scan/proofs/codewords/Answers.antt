-- `scan::codewords` meets its contract: what is gathered is what the definition receives, and `pack` cuts it into eights.
use mathlib.Core.Path.{sym, subst⁻¹, ap, ap₂, ◌∙◌}
use mathlib.Core.List.{List, map}
use Prim.Native.Nat.{ℕ}
use native.Mathlib.Omega.{arith}
use lib.ListN.{length}
use Rattle.basics.specs.Lists.{up_to, AtMost}
use Rattle.tables.proofs.Rules.{total_most}
use Rattle.scan.specs.Received.{codeword, flag, codewords, flags}
use Rattle.scan.proofs.Whole.{received_length, received_le}
use Rattle.scan.proofs.codewords.Goals as goal

pub pack-requires : goal.pack-requires
pack-requires c =
    let v : ℕ = c.args.v in
    let m = c.args.m.now in
    let le_v = c.requires.le_v in
    let lengths = c.requires.words_len in
    let g = c.gather-n.ensures.1.1 in
    let long = ap length g ∙ received_length v c.args.mask m le_v.0 le_v.1.0 in (
      subst⁻¹ (λ (xs : List ℕ). AtMost 2 xs) g (received_le v c.args.mask m le_v.0 le_v.1.0 c.requires.m_len.0 c.requires.m_len.1),
      (
        omega (arith, lengths.0, total_most v le_v.0 le_v.1.0),
        (omega (arith, lengths.0, long), lengths.1 ∙ sym lengths.0),
      ),
    )

pub returns : goal.returns
unfolding codewords flags
returns c =
    let g = c.gather-n.ensures.1.1 in
    let p = c.pack.ensures in (
      p.0 ∙ ap₂ (λ (bs : List ℕ) (n : ℕ). map (codeword bs) (up_to n)) g c.requires.words_len.0,
      p.1 ∙ ap₂ (λ (bs : List ℕ) (n : ℕ). map (flag bs) (up_to n)) g c.requires.words_len.0,
    )
