-- Characters and their codes: what the code of each character is, by computed tests, and that no code is above 45.
use mathlib.Core.Path.{◌≡◌, refl, sym, ap, ◌∙◌}
use mathlib.Core.Bool.{Bool, true, false, cond}
use mathlib.Core.List.{List, [], ◌∷◌}
use Prim.Native.Nat.{ℕ, suc, ◌+◌, ◌-◌, ◌<◌, ◌≤◌}
use native.Mathlib.Omega.{arith}
use lib.Dec.{T, eqb, eqb→eq}
use lib.ListN.{length}
use borrow.Author.Tests.{eqb-true}
use Rattle.basics.specs.Lists.{place_in}
use Rattle.basics.proofs.Test.{at, either, same_1}
use Rattle.stream.specs.Stream.{alphabet, code_of}

place_le : (xs : List ℕ) (c : ℕ) → place_in xs c ≤ length xs
unfolding place_in
place_le [] c = omega arith
place_le (x ∷ xs) c = pick (eqb x c) (place_le xs c)
  where
    pick : (t : Bool) → place_in xs c ≤ length xs → cond t 0 (suc (place_in xs c)) ≤ suc (length xs)
    pick true h = omega arith
    pick false h = omega arith

pub code_le : (c : ℕ) → code_of c ≤ 45
unfolding code_of alphabet
code_le c = place_le alphabet c

-- ---- each character's code

shifted : (f : ℕ → ℕ) (a c : ℕ) → a ≤ c → f (a + (c - a)) ≡ f c
shifted f a c h = ap f (omega arith)

pub digit_code : (c : ℕ) → 48 ≤ c → c < 58 → code_of c ≡ c - 48
unfolding code_of place_in alphabet
digit_code c h l = sym (shifted code_of 48 c h) ∙ same_1 10 (λ k. code_of (48 + k)) (λ k. k) tt (c - 48) (omega arith)

pub letter_code : (c : ℕ) → 65 ≤ c → c < 91 → code_of c ≡ c - 55
unfolding code_of place_in alphabet
letter_code c h l = sym (shifted code_of 65 c h) ∙ same_1 26 (λ k. code_of (65 + k)) (λ k. 10 + k) tt (c - 65) (omega arith) ∙ omega arith

-- what the test says of one of which it is not said that it is k
unless : (c k : ℕ) (b : Bool) → T (either (eqb c k) b) → (c ≡ k → ⊥) → T b
unless c k b t h = pick (eqb c k) (eqb-true c k) t
  where
    pick : (e : Bool) → (e ≡ true → c ≡ k) → T (either e b) → T b
    pick true f t = absurd (h (f refl))
    pick false f t = t

low : ℕ → Bool
low c = either (eqb c 32) (either (eqb c 36) (either (eqb c 37) (either (eqb c 42) (either (eqb c 43) (eqb (code_of c) 45)))))

pub low_code : (c : ℕ) → c < 45 → (c ≡ 32 → ⊥) → (c ≡ 36 → ⊥) → (c ≡ 37 → ⊥) → (c ≡ 42 → ⊥) → (c ≡ 43 → ⊥) → code_of c ≡ 45
unfolding code_of place_in alphabet low
low_code c h n₁ n₂ n₃ n₄ n₅ =
    eqb→eq (code_of c) 45 (unless c 43 _ (unless c 42 _ (unless c 37 _ (unless c 36 _ (unless c 32 _ (at 45 low tt c h) n₁) n₂) n₃) n₄) n₅)

pub middle_code : (c : ℕ) → 58 ≤ c → c < 65 → (c ≡ 58 → ⊥) → code_of c ≡ 45
unfolding code_of place_in alphabet
middle_code c h l n =
    sym (shifted code_of 59 c (omega (arith, n))) ∙ same_1 6 (λ k. code_of (59 + k)) (λ k. 45) tt (c - 59) (omega (arith, n))

pub high_code : (c : ℕ) → 91 ≤ c → c < 256 → code_of c ≡ 45
unfolding code_of place_in alphabet
high_code c h l = sym (shifted code_of 91 c h) ∙ same_1 165 (λ k. code_of (91 + k)) (λ k. 45) tt (c - 91) (omega arith)

pub ruleset codes = (digit_code, letter_code, low_code, middle_code, high_code)
