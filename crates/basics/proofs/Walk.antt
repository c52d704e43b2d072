-- What a walk leaves at each place.
--     walked_none      no turn leaves the list
--     walked_more      one turn more
--     walked_length    the list keeps its length
--     walked_made      and so does a list that n turns made
--     walked_never     a place that no turn meets is as it was
--     walked_met       a place that a turn meets, and no later turn, holds that turn's value
use mathlib.Core.Path.{◌≡◌, refl, sym, subst, ap, ◌∙◌}
use mathlib.Core.Logic.{⊎_elim}
use mathlib.Core.List.{List}
use Prim.Native.Nat.{ℕ, zero, suc, ◌+◌, ◌<◌}
use native.Mathlib.Nat.{le_of_suc-le-suc, not-suc-le-zero, eq-or-lt_of_le}
use native.Mathlib.Numerals.{add-one}
use native.Mathlib.Omega.{arith}
use lib.ListN.{length, get_or, set, length-set}
use lib.Seq.{get_or-set_same, get_or-set_other}
use Rattle.basics.specs.Walk.{walked}

module _ (place value : ℕ → ℕ) (out : List ℕ) where
  pub walked_none : out ≡ walked place value 0 out
  unfolding walked
  walked_none = refl

  pub walked_more : (now : List ℕ) (k p x : ℕ) → now ≡ walked place value k out → p ≡ place k → x ≡ value k → set now p x ≡ walked place value (k + 1) out
  unfolding walked
  walked_more now k p x e hp hx = rw (e, hp, hx, add-one)

  pub walked_length : (n : ℕ) → length (walked place value n out) ≡ length out
  unfolding walked
  walked_length zero = refl
  walked_length (suc n) = length-set (walked place value n out) (place n) (value n) ∙ walked_length n

  pub walked_made : (n : ℕ) (now : List ℕ) → now ≡ walked place value n out → length now ≡ length out
  walked_made n now e = ap length e ∙ walked_length n

  pub walked_never : (n q : ℕ) → ((k : ℕ) → k < n → q ≡ place k → ⊥) → get_or (walked place value n out) q 0 ≡ get_or out q 0
  unfolding walked
  walked_never zero q h = refl
  walked_never (suc n) q h =
      get_or-set_other (walked place value n out) (place n) q (value n) 0 (h n (omega arith)) ∙ walked_never n q (λ k l. h k (omega arith))

  last : (n : ℕ) → place n < length out → get_or (walked place value (suc n) out) (place n) 0 ≡ value n
  unfolding walked
  last n p = get_or-set_same (walked place value n out) (place n) (value n) 0 (rw (walked_length n) p)

  pub walked_met : (n k : ℕ) → k < n → place k < length out → ((j : ℕ) → k < j → j < n → place k ≡ place j → ⊥)
      → get_or (walked place value n out) (place k) 0 ≡ value k
  unfolding walked
  walked_met zero k h p l = absurd (not-suc-le-zero h)
  walked_met (suc n) k h p l =
      ⊎_elim
      (λ e. subst (λ (j : ℕ). get_or (walked place value (suc n) out) (place j) 0 ≡ value j) (sym e)
      (last n (subst (λ (j : ℕ). place j < length out) e p)))
      (λ m. get_or-set_other (walked place value n out) (place n) (place k) (value n) 0 (l n m (omega arith))
      ∙ walked_met n k m p (λ j a b. l j a (omega arith)))
      (eq-or-lt_of_le (le_of_suc-le-suc h))
