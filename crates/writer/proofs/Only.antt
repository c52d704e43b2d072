-- Only one answer, and one output, satisfies the promise of `write`.
use mathlib.Core.Path.{◌≡◌, refl, sym, ap, ◌∙◌}
use Prim.Native.Nat.{ℕ, zero, suc}
use Rattle.std.specs.Prelude.{Result, Ok, Err, length}
use Rattle.writer.specs.declared.Symbol.{Symbol}
use Rattle.writer.specs.declared.Refusal.{Refusal}
use Rattle.writer.specs.declared.Refusal.TheVariants as kinds
use Rattle.writer.specs.Writer.{Drawing, Drawn, Refused, draw}
use Rattle.writer.specs.Answer.{refusal_number, Gives}
use Rattle.writer.specs.Promise.{WritesOnly}

-- the refusal of a number
numbered : ℕ → Refusal
numbered (suc (suc zero)) = kinds.BadList
numbered (suc (suc (suc zero))) = kinds.BadCounts
numbered (suc (suc (suc (suc zero)))) = kinds.BadCharacter
numbered (suc (suc (suc (suc (suc zero))))) = kinds.NoFit
numbered (suc (suc (suc (suc (suc (suc n)))))) = kinds.ShortOutput
numbered n = kinds.BadNumber

numbered_number : (e : Refusal) → numbered (refusal_number e) ≡ e
unfolding numbered
numbered_number kinds.BadNumber = refl
numbered_number kinds.BadList = refl
numbered_number kinds.BadCounts = refl
numbered_number kinds.BadCharacter = refl
numbered_number kinds.NoFit = refl
numbered_number kinds.ShortOutput = refl

gives_only : (d : Drawing) (a a₁ : Result Symbol Refusal) → Gives a d → Gives a₁ d → a ≡ a₁
gives_only (Drawn v mask modules) (Ok s) (Ok s₁) h h₁ = ap (λ (s : Symbol). Ok s) (h ∙ sym h₁)
gives_only (Drawn v mask modules) (Ok s) (Err e) h h₁ = absurd h₁
gives_only (Drawn v mask modules) (Err e) a₁ h h₁ = absurd h
gives_only (Refused n) (Ok s) a₁ h h₁ = absurd h
gives_only (Refused n) (Err e) (Ok s) h h₁ = absurd h₁
gives_only (Refused n) (Err e) (Err f) h h₁ =
    ap (λ (e : Refusal). Err e) (sym (numbered_number e) ∙ (ap numbered (h ∙ sym h₁) ∙ numbered_number f))

pub writes_only : WritesOnly
writes_only r out a a₁ after after₁ w w₁ = (gives_only (draw r (length out)) a a₁ w.given w₁.given, w.output ∙ sym w₁.output)
