-- A block stands for one codeword at the most, so the corrector's promise has one answer.
use mathlib.Core.Path.{refl, sym, ap₂, ◌∙◌}
use Prim.Native.Nat.{ℕ}
use Rattle.code.proofs.Distance.{stands_only}
use Rattle.std.specs.Prelude.{Some, None}
use Rattle.corrector.specs.Correct.{CorrectedOnly}

pub corrected_only : CorrectedOnly
corrected_only n room word flags exit exit₁ (Some k) (Some k₁) low short x y =
    let e = stands_only n room word flags exit exit₁ k.differing k.unreadable k₁.differing k₁.unreadable low short x y in
    (ap₂ (λ (t l : ℕ). Some (record { differing = t; unreadable = l })) e.1 e.2, e.0)
corrected_only n room word flags exit exit₁ (Some k) None low short x y = absurd (y.1 exit k.differing k.unreadable x)
corrected_only n room word flags exit exit₁ None (Some k) low short x y = absurd (x.1 exit₁ k.differing k.unreadable y)
corrected_only n room word flags exit exit₁ None None low short x y = (refl, x.0 ∙ sym y.0)
