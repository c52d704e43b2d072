-- What is laid once for all masks, and what finishes it for one: a number for each module.
use Rattle.std.specs.Prelude.{◌≡◌, Bool, true, false, cond, ◌&&◌, ◌||◌, List, map, ℕ, zero, suc, ◌+◌, ◌-◌, ◌*◌, ◌/◌, ◌%◌, ◌≤◌, ◌<◌, leb, eqb, length, get_or, set}
use Rattle.std.specs.Int.Bits.{bit_xor}
use Rattle.basics.specs.Bits.{bit_of, byte_bits, low_first}
use Rattle.basics.specs.Lists.{up_to}
use Rattle.basics.specs.Walk.{walked}
use Rattle.tables.specs.Tables.{side, centres}
use Rattle.words.specs.Words.{format_word, format_bits, version_word}
use Rattle.modules.specs.Modules.{Module, Finder, Timing, Alignment, Dark, Format, Version, Data, met, fill, walk, step, flips, format_places, version_places}
use Rattle.modules.specs.Geometry.{module_on}

-- 0 or 1, the colour, where no mask and no level changes it; 2 and the codeword bit at a data module; 4 and the bit's number at a format bit
abbrev pub kind : (v : ℕ) → Module → (bit : ℕ) → ℕ
kind v (Finder c) bit = c
kind v (Timing c) bit = c
kind v (Alignment c) bit = c
kind v Dark bit = 1
kind v (Format c b) bit = 4 + b
kind v (Version c b) bit = bit_of (version_word v) b
kind v Data bit = 2 + bit

-- the kinds of a version's modules, no data module filled yet
unfoldable pub kinds : (v : ℕ) → List ℕ
kinds v = map (λ p. kind v (module_on v p) 0) (up_to (side v * side v))

-- the same once the codewords fill the data modules
unfoldable pub laid : (v : ℕ) (codewords : List ℕ) → List ℕ
laid v codewords =
    let filled = fill (met v) (byte_bits codewords) in
    map (λ p. kind v (module_on v p) (get_or filled (step (side v) (p / side v) (p % side v)) 0)) (up_to (side v * side v))

-- the colour of a module of kind x: the format word is w, and flip is 1 where the mask flips
unfoldable pub tint : (w flip x : ℕ) → ℕ
tint w flip x = cond (leb x 1) x (cond (leb x 3) (bit_xor (x - 2) flip) (bit_of w (x - 4)))

-- the symbol over a laid matrix
unfoldable pub finished : (v level mask : ℕ) (base : List ℕ) → List ℕ
finished v level mask base =
    map (λ p. tint (format_word (format_bits level mask)) (flips mask (p / side v) (p % side v)) (get_or base p 0)) (up_to (side v * side v))

-- where a mask flips row i: bit j for column j
unfoldable pub row_flips : (mask i : ℕ) → ℕ
row_flips mask i = low_first (map (flips mask i) (up_to 60))

-- the colour of a module of kind x in column j, where the bits of two words are the colours of all kinds: turned where the row flips, else plain
unfoldable pub tinted : (plain turned row j x : ℕ) → ℕ
tinted plain turned row j x = bit_of (cond (eqb (bit_of row j) 0) plain turned) x

-- ---- what is stored, one module a turn of a walk

-- at each of the first n turns the only answer is f's
abbrev pub Gives : (answer : ℕ → ℕ → Type 0) (n : ℕ) (f : ℕ → ℕ) → Type 0
Gives answer n f = (t x : ℕ) → t < n → answer t x → x ≡ f t

-- a list has room for the matrix of a version
abbrev pub HasRoom : (out : List ℕ) (v : ℕ) → Type 0
HasRoom out v = side v * side v ≤ length out

-- module t of a square of side w, row by row
unfoldable pub square_place : (s top left w t : ℕ) → ℕ
square_place s top left w t = (top + t / w) * s + (left + t % w)

-- modules of row 6 and column 6 in turn, from index 8 on, dark at even index
unfoldable pub timing_place : (s t : ℕ) → ℕ
timing_place s t = cond (eqb (t % 2) 0) (6 * s + (8 + t / 2)) ((8 + t / 2) * s + 6)

unfoldable pub timing_value : (t : ℕ) → ℕ
timing_value t = bit_of 1 (t / 2 % 2)

-- the bits of the words' copies, copy one and copy two in turn
unfoldable pub format_place : (v t : ℕ) → ℕ
format_place v t = get_or (format_places v (t % 2)) (t / 2) 0

unfoldable pub format_value : (t : ℕ) → ℕ
format_value t = 4 + t / 2

unfoldable pub version_place : (v t : ℕ) → ℕ
version_place v t = get_or (version_places v (t % 2)) (t / 2) 0

unfoldable pub version_value : (word t : ℕ) → ℕ
version_value word t = bit_of word (t / 2)

-- the dark modules of an alignment pattern, row by row from bit 0
abbrev pub alignment_dark : ℕ
alignment_dark = 33084991

-- "every pair of listed centres except the three at finders": pair (a, b) of n centres is at a finder
unfoldable pub at_finder : (n a b : ℕ) → Bool
at_finder n a b = eqb (a * b) 0 && (eqb (a + b) 0 || eqb (a + b + 1) n)

unfoldable pub aligned_one : (v t : ℕ) (out : List ℕ) → List ℕ
aligned_one v t out =
    let n = length (centres v) in
    let i = get_or (centres v) (t / n) 0 in
    let j = get_or (centres v) (t % n) 0 in
    cond (at_finder n (t / n) (t % n)) out (walked (square_place (side v) (i - 2) (j - 2) 5) (bit_of alignment_dark) 25 out)

unfoldable pub aligned : (v t : ℕ) (out : List ℕ) → List ℕ
aligned v zero out = out
aligned v (suc t) out = aligned_one v t (aligned v t out)

-- three finders with their separators
unfoldable pub finders_on : (s : ℕ) (out : List ℕ) → List ℕ
finders_on s out =
    walked (square_place s (s - 8) 0 8) (bit_of 0x7F415D5D5D417F00) 64
    (walked (square_place s 0 (s - 8) 8) (bit_of 0xFE82BABABA82FE) 64 (walked (square_place s 0 0 8) (bit_of 0x7F415D5D5D417F) 64 out))

-- timing, alignment, format bits, and the module that is always dark
unfoldable pub frame_on : (v : ℕ) (out : List ℕ) → List ℕ
frame_on v out =
    let s = side v in
    let timed = walked (timing_place s) timing_value (2 * (s - 16)) out in
    let n = length (centres v) in
    set (walked (format_place v) format_value 30 (aligned v (n * n) timed)) ((s - 8) * s + 8) 1

-- ---- filling

-- a matrix that is being filled, and how many codeword bits are used
pub record Filling : Type 0 where
  pub matrix : List ℕ
  pub used : ℕ

abbrev pub filling : (matrix : List ℕ) (used : ℕ) → Filling
filling matrix used = record { matrix = matrix; used = used }

abbrev pub put_if : Bool → (bs : List ℕ) (m : List ℕ) (n p : ℕ) → Filling
put_if true bs m n p = filling (set m p (2 + get_or bs n 0)) (n + 1)
put_if false bs m n p = filling m n

-- the modules that column pair q meets, in their order
unfoldable pub pair_place : (s q r : ℕ) → ℕ
pair_place s q r = walk s (q * (2 * s) + r)

-- a module is met: a data module takes the next bit, 0 where there are no more
unfoldable pub put : (bs : List ℕ) → Filling → (p : ℕ) → Filling
put bs f p = put_if (eqb (get_or f.matrix p 0) 2) bs f.matrix f.used p

unfoldable pub put_all : (bs : List ℕ) (place : ℕ → ℕ) (n : ℕ) → Filling → Filling
put_all bs place zero f = f
put_all bs place (suc k) f = put bs (put_all bs place k f) (place k)
