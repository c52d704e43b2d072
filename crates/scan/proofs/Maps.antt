-- The kinds of a version's modules tell the data modules: a data module alone has kind 2. And the rows of flips tell the mask.
use mathlib.Core.Path.{◌≡◌, refl, sym, ap, ◌∙◌}
use mathlib.Core.Bool.{Bool, true, false, not, cond, ◌&&◌, ◌||◌}
use mathlib.Core.List.{List, [], ◌∷◌, ◌++◌, map}
use Prim.Native.Nat.{ℕ, zero, suc, ◌+◌, ◌-◌, ◌*◌, ◌/◌, ◌%◌, ◌^◌, ◌≤◌, ◌<◌}
use native.Mathlib.Nat.{div-one, pow-suc, mul-add-div, mul-add-mod_self_left, div-eq_of_lt, mod-eq_of_lt, add-zero, add_comm, div-div-eq-div-mul, mul_comm}
use native.Mathlib.Omega.{arith}
use lib.Dec.{eqb, leb, ltb}
use lib.ListN.{length, get_or, length-append, get_or-append}
use borrow.Author.Tests.{ne_eqb}
use Rattle.basics.specs.Bits.{bit_of, low_first}
use Rattle.basics.specs.Lists.{up_to, place_in, AtMost}
use Rattle.basics.specs.Sums.{one}
use Rattle.basics.proofs.Bits.{bit_le}
use Rattle.basics.proofs.Lists.{length_map_up_to, get_d_map_up_to}
use Rattle.tables.specs.Tables.{side}
use Rattle.words.specs.Words.{version_word}
use Rattle.modules.specs.Modules.{Module, Finder, Timing, Alignment, Dark, Format, Version, Data, remains, finder, finder_colour, timing, alignment, copy_at, word_module, module_of, is_data, flips, format_places, version_places}
use Rattle.modules.specs.Geometry.{module_on}
use Rattle.modules.specs.Kinds.{kind, kinds, row_flips}
use Rattle.modules.proofs.Geometry.{flips_le}
use Rattle.scan.specs.Scan.{DataMap}

-- ---- kinds

abbrev Tells : (v : ℕ) → Module → Type 0
Tells v m = eqb (kind v m 0) 2 ≡ remains m

not_two : (x : ℕ) → x ≤ 1 → eqb x 2 ≡ false
not_two x h = ne_eqb x 2 (λ e. omega arith)

one_not_two : (t : Bool) → eqb (one t) 2 ≡ false
one_not_two true = refl
one_not_two false = refl

tells_either : (v : ℕ) (t : Bool) (a b : Module) → Tells v a → Tells v b → Tells v (cond t a b)
tells_either v true a b ha hb = ha
tells_either v false a b ha hb = hb

tells_copy : (v : ℕ) (places : List ℕ) (n p : ℕ) (copy : ℕ → ℕ → Module) → ((c b : ℕ) → Tells v (copy c b)) → Tells v (copy_at places n p copy)
unfolding copy_at
tells_copy v places n p copy h = let k = place_in places p in tells_either v (ltb k (length places)) (copy (k / n) (k % n)) Data (h (k / n) (k % n)) refl

tells_word : (v i j : ℕ) → Tells v (word_module v i j)
unfolding word_module
tells_word v i j =
    let p = i * side v + j in
    let format = copy_at (format_places v 0 ++ format_places v 1) 15 p Format in
    let version = copy_at (version_places v 0 ++ version_places v 1) 18 p Version in
    tells_either v (eqb i 8 || eqb j 8) format (cond (leb i 5 || leb j 5) version Data)
    (tells_copy v (format_places v 0 ++ format_places v 1) 15 p Format (λ c b. ne_eqb (4 + b) 2 (λ e. omega arith)))
    (tells_either v (leb i 5 || leb j 5) version Data
    (tells_copy v (version_places v 0 ++ version_places v 1) 18 p Version (λ c b. not_two (bit_of (version_word v) b) (bit_le (version_word v) b))) refl)

tells_module : (v i j : ℕ) → Tells v (module_of v i j)
unfolding module_of finder_colour
tells_module v i j =
    let s = side v in
    let d = finder s i j in
    let a = alignment v i j in
    let dark = cond (eqb i (s - 8) && eqb j 8) Dark (word_module v i j) in
    let aligned = cond (leb a 2) (Alignment (one (not (eqb a 1)))) dark in
    let timed = cond (timing s i j) (Timing (one (eqb ((i + j) % 2) 0))) aligned in
    tells_either v (leb d 4) (Finder (finder_colour d)) timed (one_not_two (leb d 1 || eqb d 3))
    (tells_either v (timing s i j) (Timing (one (eqb ((i + j) % 2) 0))) aligned (one_not_two (eqb ((i + j) % 2) 0))
    (tells_either v (leb a 2) (Alignment (one (not (eqb a 1)))) dark (one_not_two (not (eqb a 1)))
    (tells_either v (eqb i (s - 8) && eqb j 8) Dark (word_module v i j) refl (tells_word v i j))))

pub kinds_map : (v : ℕ) (rest : List ℕ) → DataMap v (kinds v ++ rest)
unfolding kinds is_data
kinds_map v rest =
    let n : ℕ = side v * side v in
    let f : ℕ → ℕ = λ p. kind v (module_on v p) 0 in
    let long : length (map f (up_to n)) ≡ n = length_map_up_to f n in
    record {
      long = rw (length-append (map f (up_to n)) rest) (omega (arith, long));
      tells = λ p h.
          rw (get_or-append (map f (up_to n)) rest 0 p (rw long h), get_d_map_up_to f n p 0 h) (tells_module v (p / side v) (p % side v));
    }

-- ---- the bits of a row

bit_front : (b y : ℕ) → b ≤ 1 → bit_of (b + 2 * y) 0 ≡ b
bit_front b y h =
    ap (λ (n : ℕ). n % 2) (div-one (b + 2 * y) ∙ add_comm b (2 * y)) ∙ mul-add-mod_self_left 2 y b ∙ mod-eq_of_lt (omega arith)

bit_later : (b y j : ℕ) → b ≤ 1 → bit_of (b + 2 * y) (suc j) ≡ bit_of y j
bit_later b y j h =
    let half : (b + 2 * y) / 2 ≡ y =
    ap (λ (n : ℕ). n / 2) (add_comm b (2 * y)) ∙ mul-add-div {m = 2} (omega arith) y b ∙ ap (λ (n : ℕ). y + n) (div-eq_of_lt {n = b} {m = 2} (omega arith)) ∙ add-zero y in
    ap (λ (n : ℕ). n % 2)
    (ap (λ (n : ℕ). (b + 2 * y) / n) (pow-suc 2 j ∙ mul_comm (2 ^ j) 2) ∙ sym (div-div-eq-div-mul (b + 2 * y) 2 (2 ^ j)) ∙ ap (λ (n : ℕ). n / 2 ^ j) half)

pub bit_low_first : (xs : List ℕ) → AtMost 1 xs → (j : ℕ) → j < length xs → bit_of (low_first xs) j ≡ get_or xs j 0
unfolding low_first
bit_low_first [] h j l = absurd (omega arith)
bit_low_first (b ∷ bs) h zero l = bit_front b (low_first bs) (h 0 (omega arith))
bit_low_first (b ∷ bs) h (suc j) l =
    bit_later b (low_first bs) j (h 0 (omega arith)) ∙ bit_low_first bs (λ i r. h (suc i) (omega arith)) j (omega arith)

pub row_flips_bit : (mask i j : ℕ) → j < 60 → bit_of (row_flips mask i) j ≡ flips mask i j
unfolding row_flips
row_flips_bit mask i j h =
    let f : ℕ → ℕ = flips mask i in
    let long : length (map f (up_to 60)) ≡ 60 = length_map_up_to f 60 in
    bit_low_first (map f (up_to 60)) (λ k l. let fewer : k < 60 = omega arith in rw (get_d_map_up_to f 60 k 0 fewer) (flips_le mask i k)) j (omega arith)
    ∙ get_d_map_up_to f 60 j 0 h
