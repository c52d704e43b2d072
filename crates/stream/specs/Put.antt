-- The bits of each piece of the writer's stream.
use Rattle.std.specs.Prelude.{cond, List, [], ◌∷◌, ◌++◌, ℕ, zero, suc, ◌+◌, ◌*◌, ◌<◌, ◌≤◌, eqb, length, get_or}
use Rattle.std.specs.List.{fold}
use Rattle.basics.specs.Bits.{bits}
use Rattle.basics.specs.Lists.{AtMost}
use Rattle.tables.specs.Tables.{count_width}
use Rattle.stream.specs.Stream.{code_of, body}

-- "Each segment: 4-bit mode, count, body"
abbrev pub segment_bits : (v mode : ℕ) → List ℕ → List ℕ
segment_bits v mode chars = bits 4 mode ++ bits (count_width v mode) (length chars) ++ body mode chars

-- the codes of characters as the digits of one number
abbrev pub value : (base : ℕ) → List ℕ → ℕ
value base chars = fold (λ n c. base * n + code_of c) 0 chars

-- a group has at most three characters, in a base of at most 45, and no width is above a field's
pub record Grouping (base : ℕ) (widths : List ℕ) : Type 0 where
  pub small : base ≤ 45
  pub some : 0 < length widths
  pub few : length widths ≤ 3
  pub narrow : AtMost 16 widths

-- the bits of characters behind `count` others of the same group, whose value is n: a group has as many characters as there are widths, only the last may have
-- fewer, and one of k characters is a number in the k-th width
unfoldable pub bits_behind : (base : ℕ) (widths : List ℕ) (n : ℕ) → List ℕ → (count : ℕ) → List ℕ
bits_behind base widths n [] zero = []
bits_behind base widths n [] (suc k) = bits (get_or widths k 0) n
bits_behind base widths n (c ∷ chars) count =
    let next = base * n + code_of c in
    cond (eqb (suc count) (length widths)) (bits (get_or widths count 0) next ++ bits_behind base widths 0 chars 0) (bits_behind base widths next chars (suc count))

abbrev pub group_bits : (base : ℕ) (widths chars : List ℕ) → List ℕ
group_bits base widths chars = bits_behind base widths 0 chars 0
