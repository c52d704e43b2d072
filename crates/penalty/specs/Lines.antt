-- The lines of a matrix by a start and a stride: a row has stride 1, a column the side.
use Rattle.std.specs.Prelude.{◌≡◌, Bool, ◌&&◌, List, [], ◌∷◌, ℕ, zero, suc, ◌+◌, ◌*◌, ◌<◌, eqb, get_or}
use Rattle.basics.specs.Sums.{one, sum, tally}
use Rattle.basics.specs.Lists.{each, joined}
use Rattle.penalty.specs.Penalty.{finder_like}

-- the n modules at start, start + stride, ..
unfoldable pub line : (m : List ℕ) (start stride n : ℕ) → List ℕ
line m start stride zero = []
line m start stride (suc n) = get_or m start 0 ∷ line m (start + stride) stride n

-- k lines of n modules, which start at start, start + step, ..
unfoldable pub lines_from : (m : List ℕ) (start step stride n k : ℕ) → List (List ℕ)
lines_from m start step stride n zero = []
lines_from m start step stride n (suc k) = line m start stride n ∷ lines_from m (start + step) step stride n k

-- k modules are equal, the one at `at` and those after it
unfoldable pub alike : (m : List ℕ) (at stride k : ℕ) → Bool
alike m at stride k = each (λ x. eqb x (get_or m at 0)) (line m at stride k)

-- how many of n places from start on begin k equal modules
unfoldable pub alike_from : (m : List ℕ) (start stride k n : ℕ) → ℕ
alike_from m start stride k n = tally n (λ j. alike m (start + j) stride k)

-- how many of n places from start on begin a window that is a pattern
unfoldable pub windows_from : (m : List ℕ) (start stride n : ℕ) → ℕ
windows_from m start stride n = tally n (λ j. finder_like (line m (start + j) stride 11))

-- a matrix turned: its columns, one after the other
unfoldable pub turned : (s : ℕ) (m : List ℕ) → List ℕ
turned s m = joined (lines_from m 0 1 s s s)

-- what a square of these four modules adds
unfoldable pub square : (a b c d : ℕ) → ℕ
square a b c d = 3 * one (eqb a b && eqb a c && eqb a d)

-- what the first n squares add whose upper row starts at start
unfoldable pub squares_from : (s : ℕ) (m : List ℕ) (start n : ℕ) → ℕ
squares_from s m start n =
    sum n (λ j. square (get_or m (start + j) 0) (get_or m (start + j + 1) 0) (get_or m (start + s + j) 0) (get_or m (start + s + j + 1) 0))

-- each answer that `post` allows at 0, .., n - 1 is that of a test
abbrev pub AnswersAs : (post : ℕ → Bool → Type 0) (test : ℕ → Bool) (n : ℕ) → Type 0
AnswersAs post test n = (i : ℕ) (b : Bool) → i < n → post i b → b ≡ test i
