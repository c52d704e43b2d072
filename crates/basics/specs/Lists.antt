-- Plain lists: runs of numbers, filters, joins, tests of every entry.
use Rattle.std.specs.Prelude.{Bool, true, false, cond, ◌&&◌, ◌||◌, List, [], ◌∷◌, ◌++◌, ℕ, zero, suc, ◌<◌, ◌≤◌, eqb, length, get_or}

-- a, a + 1, .., n numbers in all
unfoldable pub from : ℕ → ℕ → List ℕ
from a zero = []
from a (suc n) = a ∷ from (suc a) n

-- 0, 1, .., n - 1
unfoldable pub up_to : ℕ → List ℕ
up_to n = from 0 n

-- those that pass the test, in their order
unfoldable pub keep : {A : Type 0} → (A → Bool) → List A → List A
keep test [] = []
keep test (x ∷ xs) = let rest = keep test xs in cond (test x) (x ∷ rest) rest

-- lists one after the other
unfoldable pub joined : {A : Type 0} → List (List A) → List A
joined [] = []
joined (xs ∷ rest) = xs ++ joined rest

-- at least one number of the list passes the test
unfoldable pub any : (ℕ → Bool) → List ℕ → Bool
any test [] = false
any test (x ∷ xs) = test x || any test xs

-- each number of the list passes the test
unfoldable pub each : (ℕ → Bool) → List ℕ → Bool
each test [] = true
each test (x ∷ xs) = test x && each test xs

-- two lists of numbers are equal
unfoldable pub same : List ℕ → List ℕ → Bool
same [] [] = true
same [] (y ∷ ys) = false
same (x ∷ xs) [] = false
same (x ∷ xs) (y ∷ ys) = eqb x y && same xs ys

-- the place of a number in a list; the list's length where it is not there
unfoldable pub place_in : List ℕ → ℕ → ℕ
place_in [] c = 0
place_in (x ∷ xs) c = let later = suc (place_in xs c) in cond (eqb x c) 0 later

-- each number of a list is at most n
abbrev pub AtMost : (n : ℕ) → List ℕ → Type 0
AtMost n xs = (i : ℕ) → i < length xs → get_or xs i 0 ≤ n
