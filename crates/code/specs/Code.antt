-- The code of a block. A polynomial is the list of its coefficients, the highest power first.
use Rattle.std.specs.Prelude.{◌≡◌, not, ◌&&◌, List, [], ◌∷◌, ◌++◌, map, ℕ, zero, suc, ◌+◌, ◌*◌, ◌≤◌, ◌<◌, eqb, length, get_or, replicate}
use Rattle.std.specs.Int.Bits.{bit_xor}
use Rattle.basics.specs.Build.{build}
use Rattle.basics.specs.Sums.{tally}
use Rattle.field.specs.Field.{mul_n, pow_n}

-- the value at x, after coefficients whose value is y
unfoldable pub value_after : (x y : ℕ) → List ℕ → ℕ
value_after x y [] = y
value_after x y (c ∷ cs) = value_after x (bit_xor (mul_n y x) c) cs

unfoldable pub value : (x : ℕ) → List ℕ → ℕ
value x cs = value_after x 0 cs

-- the second list added to the front of the first
unfoldable pub plus : List ℕ → List ℕ → List ℕ
plus [] ys = []
plus (x ∷ xs) [] = x ∷ xs
plus (x ∷ xs) (y ∷ ys) = bit_xor x y ∷ plus xs ys

-- "The generator is the product of (x − α^i), i from 0 to n − 1"
unfoldable pub generator : ℕ → List ℕ
generator zero = 1 ∷ []
generator (suc n) = plus (generator n ++ (0 ∷ [])) (0 ∷ map (mul_n (pow_n n)) (generator n))

-- long division by x^n + the lower coefficients gs, k steps: what is then left of the list is the remainder
unfoldable pub divided : (gs : List ℕ) (k : ℕ) → List ℕ → List ℕ
divided gs zero cs = cs
divided gs (suc k) [] = []
divided gs (suc k) (c ∷ cs) = divided gs k (plus cs (map (mul_n c) gs))

unfoldable pub lower : List ℕ → List ℕ
lower [] = []
lower (c ∷ cs) = cs

-- "checks are the remainder of data·x^n"
unfoldable pub checks : (n : ℕ) → List ℕ → List ℕ
checks n held = divided (lower (generator n)) (length held) (held ++ replicate n 0)

-- "A codeword of a block is any word that is zero at all those α^i"
pub record Codeword (n : ℕ) (c : List ℕ) : Type 0 where
  pub bytes : (j : ℕ) → j < length c → get_or c j 0 < 256
  pub zeros : (i : ℕ) → i < n → value (pow_n i) c ≡ 0

-- how many places of two words differ
unfoldable pub apart_at : (a b : List ℕ) → ℕ
apart_at a b = tally (length a) (λ j. not (eqb (get_or a j 0) (get_or b j 0)))

-- a word's values at those α^i
unfoldable pub syndromes_of : (n : ℕ) (word : List ℕ) → List ℕ
syndromes_of n word = build (λ i. value (pow_n i) word) n

-- "e counts unreadable codewords": the flag of a readable one is 0
unfoldable pub unreadable : (flags : List ℕ) → ℕ
unreadable flags = tally (length flags) (λ j. not (eqb (get_or flags j 0) 0))

-- "t the readable ones that differ from a codeword of the block"
unfoldable pub differing : (word flags c : List ℕ) → ℕ
differing word flags c = tally (length word) (λ j. eqb (get_or flags j 0) 0 && not (eqb (get_or word j 0) (get_or c j 0)))

-- A block stands for a codeword: the plain rule, "the bound is 2t + e ≤ n". The room is n here, and a parameter.
pub record Stands (n room : ℕ) (word flags c : List ℕ) (t e : ℕ) : Type 0 where
  pub codeword : Codeword n c
  pub long : length c ≡ length word
  pub differs : t ≡ differing word flags c
  pub missing : e ≡ unreadable flags
  pub near : 2 * t + e ≤ room
