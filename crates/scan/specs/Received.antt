-- What a matrix holds, as it was read: the copies of the words with the bits that could be read, and the codewords with their flags.
-- A module is 0 light, 1 dark, 2 unreadable.
use Rattle.std.specs.Prelude.{cond, List, map, ℕ, ◌*◌, ◌/◌, ◌%◌, eqb, ltb, get_or, take, drop}
use Rattle.std.specs.Int.Bits.{bit_xor}
use Rattle.basics.specs.Sums.{one}
use Rattle.basics.specs.Bits.{number, low_first}
use Rattle.basics.specs.Lists.{any, up_to}
use Rattle.tables.specs.Tables.{side, total}
use Rattle.modules.specs.Modules.{order, flips}

-- a copy of a word as it was read, and which of its bits could be read
unfoldable pub copied : (m places : List ℕ) → ℕ
copied m places = low_first (map (λ p. one (eqb (get_or m p 0) 1)) places)

unfoldable pub readable : (m places : List ℕ) → ℕ
readable m places = low_first (map (λ p. one (ltb (get_or m p 0) 2)) places)

-- a data module with the mask taken off; 2 stays "unreadable"
unfoldable pub unmasked : (v mask : ℕ) (m : List ℕ) (p : ℕ) → ℕ
unmasked v mask m p = cond (eqb (get_or m p 0) 2) 2 (bit_xor (get_or m p 0) (flips mask (p / side v) (p % side v)))

-- the data modules in their order
unfoldable pub received : (v mask : ℕ) (m : List ℕ) → List ℕ
received v mask m = map (unmasked v mask m) (order v)

-- the eight modules of the codeword at place q of the sent order
unfoldable pub eight : (bs : List ℕ) (q : ℕ) → List ℕ
eight bs q = take 8 (drop (8 * q) bs)

-- "A codeword with any unreadable module is unreadable; its readable modules then count for nothing": its flag is 1, and its number 0
unfoldable pub flag : (bs : List ℕ) (q : ℕ) → ℕ
flag bs q = one (any (eqb 2) (eight bs q))

unfoldable pub codeword : (bs : List ℕ) (q : ℕ) → ℕ
codeword bs q = cond (eqb (flag bs q) 1) 0 (number (eight bs q))

-- the codewords of a matrix in their sent order, and their flags
unfoldable pub codewords : (v mask : ℕ) (m : List ℕ) → List ℕ
codewords v mask m = map (codeword (received v mask m)) (up_to (total v))

unfoldable pub flags : (v mask : ℕ) (m : List ℕ) → List ℕ
flags v mask m = map (flag (received v mask m)) (up_to (total v))
