-- A walk that keeps every turn: a store a turn, and what two such walks leave.
use mathlib.Core.Path.{◌≡◌, refl, sym, ap, ◌∙◌}
use mathlib.Core.List.{List, ◌++◌}
use Prim.Native.Nat.{ℕ, zero, suc, ◌+◌, ◌<◌}
use native.Mathlib.Nat.{add-zero, add-suc, zero-add}
use native.Mathlib.Numerals.{add-one}
use native.Mathlib.Omega.{arith}
use lib.ListN.{length, get_or, set, length-append, get_or-append}
use lib.Seq.{get_or-append-add}
use Rattle.basics.specs.Walk.{walked}
use Rattle.basics.proofs.Walk.{walked_length, walked_never, walked_met}
use Rattle.blocks.specs.Blocks.{dealt}

-- one more store
pub deal_more : (place : ℕ → ℕ) (part out out₀ : List ℕ) (k q : ℕ) → q ≡ place k → out ≡ walked place (λ k. get_or part k 0) k out₀
    → set out q (get_or part k 0) ≡ walked place (λ k. get_or part k 0) (k + 1) out₀
unfolding walked
deal_more place part out out₀ k q e w = rw (e, w, add-one)

-- after the last
pub deal_all : (place : ℕ → ℕ) (part out out₀ : List ℕ) (k : ℕ) → out ≡ walked place (λ k. get_or part k 0) k out₀ → k ≡ length part
    → out ≡ dealt place part out₀
unfolding dealt
deal_all place part out out₀ k w e = w ∙ rw e refl

-- a walk goes by what stands at its turns
walk_same : (p q : ℕ → ℕ) (f g : ℕ → ℕ) (n : ℕ) (out : List ℕ) → ((k : ℕ) → k < n → p k ≡ q k) → ((k : ℕ) → k < n → f k ≡ g k)
    → walked p f n out ≡ walked q g n out
unfolding walked
walk_same p q f g zero out hp hf = refl
walk_same p q f g (suc n) out hp hf = rw (hp n (omega arith), hf n (omega arith), walk_same p q f g n out (λ k l. hp k (omega arith)) (λ k l. hf k (omega arith)))

-- two walks one after the other
walk_on : (p f : ℕ → ℕ) (n m : ℕ) (out : List ℕ)
    → walked (λ k. p (n + k)) (λ k. f (n + k)) m (walked p f n out) ≡ walked p f (n + m) out
unfolding walked
walk_on p f n zero out = rw (add-zero n) refl
walk_on p f n (suc m) out = rw (add-suc n m, walk_on p f n m out)

pub dealt_append : (place : ℕ → ℕ) (xs ys out : List ℕ) (n : ℕ) → length xs ≡ n
    → dealt (λ k. place (n + k)) ys (dealt (λ k. place (0 + k)) xs out) ≡ dealt place (xs ++ ys) out
unfolding dealt
dealt_append place xs ys out n e =
    let value : ℕ → ℕ = λ k. get_or (xs ++ ys) k 0 in
    ap (walked (λ k. place (n + k)) (λ k. get_or ys k 0) (length ys))
    (walk_same (λ k. place (0 + k)) place (λ k. get_or xs k 0) value (length xs) out (λ k l. ap place (zero-add k)) (λ k l. sym (get_or-append xs ys 0 k l)))
    ∙ walk_same (λ k. place (n + k)) (λ k. place (length xs + k)) (λ k. get_or ys k 0) (λ k. value (length xs + k)) (length ys)
    (walked place value (length xs) out)
    (λ k l. ap (λ (m : ℕ). place (m + k)) (sym e)) (λ k l. sym (get_or-append-add xs ys k 0))
    ∙ walk_on place value (length xs) (length ys) out
    ∙ ap (λ (m : ℕ). walked place value m out) (sym (length-append xs ys))

module _ (place : ℕ → ℕ) (part out : List ℕ) where
  pub dealt_length : length (dealt place part out) ≡ length out
  unfolding dealt
  dealt_length = walked_length place (λ k. get_or part k 0) out (length part)

  -- a place that is none of these is as it was
  pub dealt_other : (q : ℕ) → ((k : ℕ) → k < length part → q ≡ place k → ⊥) → get_or (dealt place part out) q 0 ≡ get_or out q 0
  unfolding dealt
  dealt_other q h = walked_never place (λ k. get_or part k 0) out (length part) q (λ k l e. h k l e)

  -- a place that no two share holds its codeword
  pub dealt_at : ((j k : ℕ) → j < length part → k < length part → place j ≡ place k → j ≡ k) → (k : ℕ) → k < length part → place k < length out
      → get_or (dealt place part out) (place k) 0 ≡ get_or part k 0
  unfolding dealt
  dealt_at only k l h =
      walked_met place (λ k. get_or part k 0) out (length part) k l h
      (λ j less more e. let same = only k j l more e in absurd (omega arith))

-- a front that is dealt, and then what follows it
pub dealt_both : (place : ℕ → ℕ) (held made out out₁ out₂ : List ℕ) → out₁ ≡ dealt (λ k. place (0 + k)) held out
    → out₂ ≡ dealt (λ k. place (length held + k)) made out₁ → out₂ ≡ dealt place (held ++ made) out
dealt_both place held made out out₁ out₂ e₁ e₂ = e₂ ∙ rw e₁ (dealt_append place held made out (length held) refl)
