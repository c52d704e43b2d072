-- The value of a word at x, one codeword after the other from the front, as the loop over 32 powers takes them.
use mathlib.Core.Path.{◌≡◌, refl, sym, ap, ap₂, ◌∙◌}
use mathlib.Core.List.{List, [], ◌∷◌, ◌++◌}
use Prim.Native.Nat.{ℕ, ◌+◌, ◌<◌}
use native.Mathlib.Numerals.{add-one}
use lib.Bits.{bit_xor}
use lib.ListN.{length, take, get_or, replicate}
use lib.Seq.{take-suc}
use Rattle.basics.specs.Build.{build}
use Rattle.basics.proofs.Build.{build_get}
use Rattle.field.specs.Field.{mul_n, pow_n}
use Rattle.code.specs.Code.{value, value_after}
use Rattle.code.specs.Lanes.{hornered}
use Rattle.code.proofs.Lanes.{build_same}

after_snoc : (x y : ℕ) (cs : List ℕ) (c : ℕ) → value_after x y (cs ++ (c ∷ [])) ≡ bit_xor (mul_n (value_after x y cs) x) c
unfolding value_after
after_snoc x y [] c = refl
after_snoc x y (d ∷ cs) c = after_snoc x (bit_xor (mul_n y x) d) cs c

-- one more codeword at the end
pub value_snoc : (x : ℕ) (cs : List ℕ) (c : ℕ) → value x (cs ++ (c ∷ [])) ≡ bit_xor (mul_n (value x cs) x) c
unfolding value
value_snoc x = after_snoc x 0

pub values_none : replicate 32 0 ≡ build (λ i. value (pow_n i) []) 32
unfolding build value value_after
values_none = refl

pub values_more : (word s p r : List ℕ) (j : ℕ) → j < length word → s ≡ build (λ i. value (pow_n i) (take j word)) 32 → p ≡ build pow_n 32
    → r ≡ build (hornered s p (get_or word j 0)) 32 → r ≡ build (λ i. value (pow_n i) (take (j + 1) word)) 32
unfolding hornered
values_more word s p r j h es ep er =
    er
    ∙ build_same (hornered s p (get_or word j 0)) (λ i. value (pow_n i) (take (j + 1) word)) 32
    (λ k l.
    ap₂ (λ (a b : ℕ). bit_xor (mul_n a b) (get_or word j 0)) (ap (λ (v : List ℕ). get_or v k 0) es ∙ build_get (λ i. value (pow_n i) (take j word)) 32 k l) (ap (λ (v : List ℕ). get_or v k 0) ep ∙ build_get pow_n 32 k l)
    ∙ sym (value_snoc (pow_n k) (take j word) (get_or word j 0))
    ∙ ap (value (pow_n k)) (sym (take-suc word j 0 h) ∙ ap (λ (m : ℕ). take m word) (sym (add-one j))))
