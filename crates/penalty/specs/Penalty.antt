-- The penalty of a finished symbol, and the choice of the mask.
use Rattle.std.specs.Prelude.{Bool, cond, ◌&&◌, ◌||◌, List, [], ◌∷◌, map, ℕ, ◌+◌, ◌-◌, ◌*◌, ◌/◌, leb, ltb, eqb, get_or, take, drop}
use Rattle.basics.specs.Sums.{one, apart, sum}
use Rattle.basics.specs.Lists.{same, up_to}

-- the rows of a matrix of side s, and its columns
unfoldable pub rows : (s : ℕ) → List ℕ → List (List ℕ)
rows s m = map (λ i. take s (drop (i * s) m)) (up_to s)

unfoldable pub columns : (s : ℕ) → List (List ℕ) → List (List ℕ)
columns s rs = map (λ j. map (λ row. get_or row j 0) rs) (up_to s)

-- "each longest run of r ≥ 5 equal modules: r − 2"
unfoldable pub run : (r : ℕ) → ℕ
run r = cond (leb 5 r) (r - 2) 0

-- the runs of a line that goes on after r modules of colour c
unfoldable pub runs_after : (c r : ℕ) → List ℕ → ℕ
runs_after c r [] = run r
runs_after c r (x ∷ xs) = cond (eqb x c) 0 (run r) + runs_after x (cond (eqb x c) (r + 1) 1) xs

unfoldable pub runs : List ℕ → ℕ
runs [] = 0
runs (x ∷ xs) = runs_after x 1 xs

-- "equal to 10111010000 or 00001011101 (dark 1)"
unfoldable pub patterns : List (List ℕ)
patterns =
    (1 ∷ 0 ∷ 1 ∷ 1 ∷ 1 ∷ 0 ∷ 1 ∷ 0 ∷ 0 ∷ 0 ∷ 0 ∷ []) ∷ (0 ∷ 0 ∷ 0 ∷ 0 ∷ 1 ∷ 0 ∷ 1 ∷ 1 ∷ 1 ∷ 0 ∷ 1 ∷ []) ∷ []

-- a window is one pattern or the other
unfoldable pub finder_like : List ℕ → Bool
finder_like w = same w (get_or patterns 0 []) || same w (get_or patterns 1 [])

-- "Each 11-module window in a row or column .. : 40"
unfoldable pub windows : List ℕ → ℕ
windows [] = 0
windows (x ∷ xs) = cond (finder_like (take 11 (x ∷ xs))) 40 0 + windows xs

-- both over a list of lines
unfoldable pub lines : List (List ℕ) → ℕ
lines [] = 0
lines (line ∷ rest) = runs line + windows line + lines rest

-- the module at (i, j)
abbrev pub at : List (List ℕ) → (i j : ℕ) → ℕ
at grid i j = get_or (get_or grid i []) j 0

-- "Each 2 by 2 square of one colour, overlaps counted: 3"
unfoldable pub squares : (s : ℕ) → List (List ℕ) → ℕ
squares s grid =
    sum (s - 1) (λ i. sum (s - 1) (λ j.
    3 * one (eqb (at grid i j) (at grid i (j + 1)) && eqb (at grid i j) (at grid (i + 1) j) && eqb (at grid i j) (at grid (i + 1) (j + 1)))))

-- the number of dark modules
unfoldable pub dark : List ℕ → ℕ
dark [] = 0
dark (x ∷ xs) = one (eqb x 1) + dark xs

-- "With k dark modules: 10·floor(|20k − 10s²| / s²)"
unfoldable pub share : (s k : ℕ) → ℕ
share s k = 10 * (apart (20 * k) (10 * (s * s)) / (s * s))

-- the score of a finished symbol of side s
unfoldable pub score : (s : ℕ) → List ℕ → ℕ
score s m = let grid = rows s m in lines grid + lines (columns s grid) + squares s grid + share s (dark m)

-- the place of the least number, the first among equals, where `least` at `place` is the least of those before number k
unfoldable pub least_after : (least place k : ℕ) → List ℕ → ℕ
least_after least place k [] = place
least_after least place k (x ∷ xs) = least_after (cond (ltb x least) x least) (cond (ltb x least) k place) (k + 1) xs

-- "the least score is taken, the lowest mask among equals"
unfoldable pub least_place : List ℕ → ℕ
least_place [] = 0
least_place (x ∷ xs) = least_after x 0 1 xs
