-- What each module is, the order of the data modules, the masks, and the finished symbol. A place (i, j) is also the number i·s + j.
use Rattle.std.specs.Prelude.{Bool, true, false, cond, ◌&&◌, ◌||◌, not, List, [], ◌∷◌, ◌++◌, map, ℕ, ◌+◌, ◌-◌, ◌*◌, ◌/◌, ◌%◌, min, max, leb, ltb, eqb, length, get_or}
use Rattle.std.specs.Int.Bits.{bit_xor}
use Rattle.basics.specs.Sums.{one, apart}
use Rattle.basics.specs.Bits.{bit_of, byte_bits}
use Rattle.basics.specs.Lists.{up_to, keep, joined, place_in}
use Rattle.tables.specs.Tables.{side, centres}
use Rattle.words.specs.Words.{format_word, format_bits, version_word}

-- ---- the patterns

-- "the larger of row and column distance from the centre"
abbrev pub far : (i j ci cj : ℕ) → ℕ
far i j ci cj = max (apart i ci) (apart j cj)

-- "Finders: 7 by 7, centres (3,3), (3,s−4), (s−4,3)": the distance from the nearest
unfoldable pub finder : (s i j : ℕ) → ℕ
finder s i j = min (far i j 3 3) (min (far i j 3 (s - 4)) (far i j (s - 4) 3))

-- "dark at 0, 1, 3; light at 2; light separator at 4"
unfoldable pub finder_colour : (d : ℕ) → ℕ
finder_colour d = one (leb d 1 || eqb d 3)

-- "Timing: row 6 and column 6, indices 8 to s−9, dark at even index"
unfoldable pub timing : (s i j : ℕ) → Bool
timing s i j = (eqb i 6 && leb 8 j && leb (j + 9) s) || (eqb j 6 && leb 8 i && leb (i + 9) s)

-- a place of the matrix
pub record Place : Type 0 where
  pub row : ℕ
  pub column : ℕ

-- "every pair of listed centres except the three at finders"
unfoldable pub alignment_centres : (v : ℕ) → List Place
alignment_centres v =
    keep (λ c. ltb 3 (finder (side v) c.row c.column))
    (joined (map (λ i. map (λ j. record { row = i; column = j }) (centres v)) (centres v)))

-- the distance of (i, j) from the nearest of some centres; 3, outside every pattern, where it is farther
unfoldable pub nearest : (i j : ℕ) → List Place → ℕ
nearest i j [] = 3
nearest i j (c ∷ cs) = min (far i j c.row c.column) (nearest i j cs)

-- "Alignment: 5 by 5 at every pair of listed centres except the three at finders": the distance from the nearest centre
unfoldable pub alignment : (v i j : ℕ) → ℕ
alignment v i j = nearest i j (alignment_centres v)

-- ---- the words' places

-- "copy one: bits 0 to 5 at (row b, column 8); bit 6 at (7,8); bit 7 at (8,8); bit 8 at (8,7); bits 9 to 14 at (8, 14−b)"
unfoldable pub format_one : (s b : ℕ) → ℕ
format_one s b =
    cond (leb b 5) (b * s + 8) (cond (eqb b 6) (7 * s + 8) (cond (eqb b 7) (8 * s + 8) (cond (eqb b 8) (8 * s + 7) (8 * s + (14 - b)))))

-- "Copy two: bits 0 to 7 at (8, s−1−b); bits 8 to 14 at (s−15+b, 8)"
unfoldable pub format_two : (s b : ℕ) → ℕ
format_two s b = cond (leb b 7) (8 * s + (s - 1 - b)) ((s - 15 + b) * s + 8)

-- "bit b at row floor(b/3), column s−11+(b mod 3), and at the transposed place"
unfoldable pub version_one : (s b : ℕ) → ℕ
version_one s b = b / 3 * s + (s - 11 + b % 3)

unfoldable pub version_two : (s b : ℕ) → ℕ
version_two s b = (s - 11 + b % 3) * s + b / 3

-- the places of the two format copies, and of the two version copies, "Drawn from version 7 on"; bit 0 first
unfoldable pub format_places : (v copy : ℕ) → List ℕ
format_places v copy = map (cond (eqb copy 0) (format_one (side v)) (format_two (side v))) (up_to 15)

unfoldable pub version_places : (v copy : ℕ) → List ℕ
version_places v copy = cond (leb 7 v) (map (cond (eqb copy 0) (version_one (side v)) (version_two (side v))) (up_to 18)) []

-- ---- what a module is

pub data Module : Type 0 where
  Finder : (colour : ℕ) → Module
  Timing : (colour : ℕ) → Module
  Alignment : (colour : ℕ) → Module
  Dark : Module
  Format : (copy bit : ℕ) → Module
  Version : (copy bit : ℕ) → Module
  Data : Module

-- the module at place p, where a word of n bits has its two copies at the listed places; else a data module
unfoldable pub copy_at : (places : List ℕ) (n p : ℕ) → (copy : ℕ → ℕ → Module) → Module
copy_at places n p copy = let k = place_in places p in cond (ltb k (length places)) (copy (k / n) (k % n)) Data

-- a module of a word, or a data module: format copies lie in row 8 and column 8, version copies in the first six rows and columns
unfoldable pub word_module : (v i j : ℕ) → Module
word_module v i j =
    let p = i * side v + j in
    let format = copy_at (format_places v 0 ++ format_places v 1) 15 p Format in
    let version = copy_at (version_places v 0 ++ version_places v 1) 18 p Version in
    let others = cond (leb i 5 || leb j 5) version Data in
    cond (eqb i 8 || eqb j 8) format others

-- what module (i, j) of a version is
unfoldable pub module_of : (v i j : ℕ) → Module
module_of v i j =
    let s = side v in
    let d = finder s i j in
    let a = alignment v i j in
    let rest = word_module v i j in
    let dark = cond (eqb i (s - 8) && eqb j 8) Dark rest in
    let aligned = cond (leb a 2) (Alignment (one (not (eqb a 1)))) dark in
    let timed = cond (timing s i j) (Timing (one (eqb ((i + j) % 2) 0))) aligned in
    cond (leb d 4) (Finder (finder_colour d)) timed

-- "All remaining modules are data modules"
abbrev pub remains : Module → Bool
remains (Finder c) = false
remains (Timing c) = false
remains (Alignment c) = false
remains Dark = false
remains (Format c b) = false
remains (Version c b) = false
remains Data = true

unfoldable pub is_data : (v p : ℕ) → Bool
is_data v p = remains (module_of v (p / side v) (p % side v))

-- ---- the order of the data modules

-- "column pairs from the right, (s−1, s−2) first, skipping column 6 so that its left neighbours pair (5,4), (3,2), (1,0)": the right column of pair q
unfoldable pub pair_column : (s q : ℕ) → ℕ
pair_column s q = let c = s - 1 - 2 * q in cond (leb c 6) (c - 1) c

-- "the first pair runs upward, then down, in turn; in each row right before left": step k of the walk, non-data modules not yet skipped
unfoldable pub walk : (s k : ℕ) → ℕ
walk s k =
    let q = k / (2 * s) in
    let r = k % (2 * s) in
    cond (eqb (q % 2) 0) (s - 1 - r / 2) (r / 2) * s + (pair_column s q - r % 2)

-- and back: the step that meets module (i, j), for j not 6
unfoldable pub step : (s i j : ℕ) → ℕ
step s i j =
    let c = cond (leb j 5) (j + 1) j in
    let q = (s - 1 - c) / 2 in
    q * (2 * s) + 2 * cond (eqb (q % 2) 0) (s - 1 - i) i + c % 2

-- which steps meet a data module
unfoldable pub met : (v : ℕ) → List Bool
met v = map (λ k. is_data v (walk (side v) k)) (up_to (side v * (side v - 1)))

-- "non-data modules skipped": the data modules in their order
unfoldable pub order : (v : ℕ) → List ℕ
order v = keep (is_data v) (map (walk (side v)) (up_to (side v * (side v - 1))))

-- ---- the masks

-- "Masks flip a data module (surplus included) where" the mask's number, 0 to 7, is 0
unfoldable pub mask_numbers : (i j : ℕ) → List ℕ
mask_numbers i j =
    ((i + j) % 2)
    ∷ (i % 2)
    ∷ (j % 3)
    ∷ ((i + j) % 3)
    ∷ ((i / 2 + j / 3) % 2)
    ∷ (i * j % 2 + i * j % 3)
    ∷ ((i * j % 2 + i * j % 3) % 2)
    ∷ (((i + j) % 2 + i * j % 3) % 2)
    ∷ []

unfoldable pub flips : (mask i j : ℕ) → ℕ
flips mask i j = one (eqb (get_or (mask_numbers i j) mask 1) 0)

-- ---- the finished symbol

-- "Codeword bits fill them; the surplus is 0": the bit that each step puts, 0 where it meets no data module
unfoldable pub fill : List Bool → (bs : List ℕ) → List ℕ
fill [] bs = []
fill (false ∷ steps) bs = 0 ∷ fill steps bs
fill (true ∷ steps) [] = 0 ∷ fill steps []
fill (true ∷ steps) (b ∷ bs) = b ∷ fill steps bs

-- the colour of a module, given the codeword bit that fills it if it is a data module, and whether the mask flips it
abbrev pub colour : (v level mask : ℕ) → Module → (bit flip : ℕ) → ℕ
colour v level mask (Finder c) bit flip = c
colour v level mask (Timing c) bit flip = c
colour v level mask (Alignment c) bit flip = c
colour v level mask Dark bit flip = 1
colour v level mask (Format c b) bit flip = bit_of (format_word (format_bits level mask)) b
colour v level mask (Version c b) bit flip = bit_of (version_word v) b
colour v level mask Data bit flip = bit_xor bit flip

-- module p of a symbol, whose steps put these bits
unfoldable pub module_at : (v level mask : ℕ) (filled : List ℕ) (p : ℕ) → ℕ
module_at v level mask filled p =
    let i = p / side v in
    let j = p % side v in
    let bit = get_or filled (step (side v) i j) 0 in
    let flip = flips mask i j in
    colour v level mask (module_of v i j) bit flip

-- the symbol of the codewords as they are sent
unfoldable pub symbol : (v level mask : ℕ) (codewords : List ℕ) → List ℕ
symbol v level mask codewords = map (module_at v level mask (fill (met v) (byte_bits codewords))) (up_to (side v * side v))
