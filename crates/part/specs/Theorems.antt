-- What is shown of the parts beside the contracts, each a statement with a name.
use Rattle.std.specs.Prelude.{◌≡◌, List, map, ℕ, ◌+◌, ◌/◌, ◌%◌, ◌≤◌, length}
use Rattle.basics.specs.Lists.{up_to, joined}
use Rattle.part.specs.Part.{start_of, span_of, part_of}

-- "where .. the part would run past the payload, it hands back the empty part at the start": no part runs past a payload of n bytes
abbrev pub PartInside : Type 0
PartInside = (list : List ℕ) (n k : ℕ) → (span_of list n k).start + (span_of list n k).len ≤ n

-- "the part of the caller's payload that the k-th segment fills": where the counts sum to the payload's length, the parts join to the payload
abbrev pub PartsJoin : Type 0
PartsJoin =
    (payload list : List ℕ) → length list % 2 ≡ 0 → start_of list (length list / 2) ≡ length payload
    → joined (map (part_of payload list) (up_to (length list / 2))) ≡ payload
