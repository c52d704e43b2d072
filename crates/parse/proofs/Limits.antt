-- The definition at its edges, computed: the limits of groups, and which refusal comes first.
use mathlib.Core.Path.{◌≡◌, refl}
use mathlib.Core.List.{[], ◌∷◌, ◌++◌}
use Prim.Native.Nat.{ℕ, ◌*◌}
use Rattle.basics.specs.Bits.{bits, number, number_after}
use Rattle.tables.specs.Tables.{count_width}
use Rattle.stream.specs.Stream.{known, body_width}
use Rattle.parse.specs.Parse.{digits_in_range, pairs_in_range, groups_in_range, Front, End, Segment, Refusal, head_width, segment, ends, front}

-- 0 for a whole segment, 1 for the end, else the refusal
unfoldable pub number_of : Front → ℕ
number_of End = 1
number_of (Segment mode count) = 0
number_of (Refusal n) = n

-- a segment of one group, version 1
unfoldable pub lone : (mode count width x : ℕ) → ℕ
lone mode count width x = number_of (front 1 (bits 4 mode ++ (bits (count_width 1 mode) count ++ bits width x)))

-- "Groups above 999, 99, 9 or, alphanumeric, above 2024, 44 are refusal 15"
pub group_limits :
    (lone 1 3 10 999 ∷ lone 1 3 10 1000 ∷ lone 1 2 7 99 ∷ lone 1 2 7 100 ∷ lone 1 1 4 9 ∷ lone 1 1 4 10 ∷
    lone 2 2 11 2024 ∷ lone 2 2 11 2025 ∷ lone 2 1 6 44 ∷ lone 2 1 6 45 ∷ lone 4 1 8 255 ∷ [])
    ≡ (0 ∷ 15 ∷ 0 ∷ 15 ∷ 0 ∷ 15 ∷ 0 ∷ 15 ∷ 0 ∷ 15 ∷ 0 ∷ [])
unfolding number_of lone front ends segment head_width groups_in_range digits_in_range pairs_in_range count_width known body_width bits number number_after
group_limits = refl

-- three bits end the stream, and so does mode 0; four bits of an unknown mode are 13, with no count field too; a short count field is 14;
-- a body that runs past the bits is 14, with a group out of range too, and a whole body with such a group is 15; a count of 0 is whole
pub first_faults :
    (number_of (front 1 (1 ∷ 1 ∷ 1 ∷ [])) ∷ number_of (front 1 (bits 4 0 ++ bits 8 236)) ∷ number_of (front 1 (bits 4 3)) ∷
    number_of (front 1 (bits 4 1 ++ bits 9 1)) ∷ lone 1 4 10 1000 ∷ lone 1 4 14 (1000 * 16) ∷ lone 4 0 0 0 ∷ [])
    ≡ (1 ∷ 1 ∷ 13 ∷ 14 ∷ 14 ∷ 15 ∷ 0 ∷ [])
unfolding number_of lone front ends segment head_width groups_in_range digits_in_range pairs_in_range count_width known body_width bits number number_after
first_faults = refl
