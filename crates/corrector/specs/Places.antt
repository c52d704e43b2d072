-- The places of a block that may differ from its codeword.
use Rattle.std.specs.Prelude.{◌≡◌, Bool, not, cond, ◌||◌, List, [], ◌∷◌, ◌++◌, ◌⊎◌, ℕ, zero, suc, ◌-◌, ◌<◌, ◌≤◌, eqb, length, get_or, take}
use Rattle.std.specs.Int.Bits.{bit_xor}
use Rattle.field.specs.Field.{pow_n}
use Rattle.field.proofs.Byte.{val, mul, inv}
use Rattle.theory.proofs.Run.{eval}
use Rattle.theory.proofs.Places.{erase_all}
use Rattle.theory.proofs.Values.{product, evaluator, slope}
use Rattle.theory.proofs.Gf.{gf256, locators}
use Rattle.corrector.specs.Lanes.{poly}

-- the numbers below n that pass the test, the greatest first
unfoldable pub picked : (ℕ → Bool) → ℕ → List ℕ
picked test zero = []
picked test (suc j) = let rest = picked test j in cond (test j) (j ∷ rest) rest

-- the codeword at the place is unreadable
unfoldable pub marked : (flags : List ℕ) → ℕ → Bool
marked flags j = not (eqb (get_or flags j 0) 0)

-- it is, or the polynomial is 0 at its locator
unfoldable pub suspect : (flags a : List ℕ) → ℕ → Bool
suspect flags a j = marked flags j || eqb (val (eval gf256 32 (poly a) (locators (length flags) j))) 0

-- the row r holds the sums of s with each unreadable place taken out
pub record Erased (s flags r : List ℕ) : Type 0 where
  pub row : length r ≡ 32
  pub each : (h : ℕ) → poly r h ≡ erase_all gf256 (locators (length flags)) (picked (marked flags) (length flags)) (poly s) h

-- the suspected places from d on are listed, with their locators; or there are more than 30
pub record Found (flags a : List ℕ) (d : ℕ) (at xs : List ℕ) (count : ℕ) : Type 0 where
  pub small : count ≤ 31
  pub long : length at ≡ 32
  pub wide : length xs ≡ 32
  pub listed : count ≤ 30 → take count at ++ picked (suspect flags a) d ≡ picked (suspect flags a) (length flags)
  pub many : 31 ≤ count → 31 ≤ length (picked (suspect flags a) (length flags))
  pub located : (k : ℕ) → k < count → get_or xs k 0 ≡ pow_n (length flags - suc (get_or at k 0))

-- one place more: it is listed where it is unreadable or the value v is 0
abbrev pub Noted : (flag v j x : ℕ) (at xs : List ℕ) (count : ℕ) (at' xs' : List ℕ) (count' : ℕ) → Type 0
Noted flag v j x at xs count at' xs' count' =
    (flags a : List ℕ) → j < length flags → suspect flags a j ≡ not (eqb flag 0) || eqb v 0 → x ≡ pow_n (length flags - suc j) →
    Found flags a (suc j) at xs count → Found flags a j at' xs' count'

-- many places below top are walked, from the greatest down: listed for any polynomial whose values at their locators xs are the vs
abbrev pub Grouped : (flags vs xs : List ℕ) (top many : ℕ) (at ys : List ℕ) (count : ℕ) (at' ys' : List ℕ) (count' : ℕ) → Type 0
Grouped flags vs xs top many at ys count at' ys' count' =
    (a : List ℕ) → ((i : ℕ) → i < many → poly vs i ≡ eval gf256 32 (poly a) (poly xs i)) → ((i : ℕ) → i < many → get_or xs i 0 ≡ pow_n (length flags - (top - i))) →
    Found flags a top at ys count → Found flags a (top - many) at' ys' count'

-- a place is as the word has it, or it is one of the first count of the list, and the value given for it is added
pub record Mended (word at values : List ℕ) (count : ℕ) (r : List ℕ) : Type 0 where
  pub each :
      (j : ℕ) → j < length word →
      ((get_or r j 0 ≡ get_or word j 0) × ((k : ℕ) → k < count → get_or at k 0 ≡ j → ⊥))
      ⊎ ((k : ℕ) × (k < count) × (get_or at k 0 ≡ j) × (get_or r j 0 ≡ bit_xor (get_or word j 0) (get_or values k 0)))

-- what is wrong at each locator of the first count, of the sums s: at a simple root of the locators' product, what the sums make there by its slope
abbrev pub Magnitudes : (xs : List ℕ) (count : ℕ) (s r : List ℕ) → Type 0
Magnitudes xs count s r =
    (i : ℕ) → i < 32 →
    poly r i
    ≡ mul (eval gf256 32 (evaluator gf256 32 (product gf256 (poly xs) count) (poly s)) (poly xs i)) (inv (slope gf256 32 (product gf256 (poly xs) count) (poly xs i)))
