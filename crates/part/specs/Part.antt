-- The part of a payload that a segment fills.
use Rattle.std.specs.Prelude.{◌≡◌, cond, ◌&&◌, List, ℕ, zero, suc, ◌+◌, ◌*◌, ◌/◌, ◌%◌, leb, ltb, eqb, length, get_or, take, drop}
use Rattle.part.specs.declared.Span.{Span}

-- where segment k starts: the counts of those before it, summed
abbrev pub start_of : List ℕ → ℕ → ℕ
start_of list zero = 0
start_of list (suc k) = start_of list k + get_or list (2 * k + 1) 0

abbrev pub nowhere : Span
nowhere = record { start = 0; len = 0 }

-- "the part of the caller's payload that the k-th segment fills, counted from 0; where k is not in the given list, the list is odd, or
-- the part would run past the payload, it hands back the empty part at the start": n is the payload's length
unfoldable pub span_of : (list : List ℕ) (n k : ℕ) → Span
span_of list n k =
    cond (eqb (length list % 2) 0 && ltb k (length list / 2) && leb (start_of list (suc k)) n)
    (record { start = start_of list k; len = get_or list (2 * k + 1) 0 })
    nowhere

-- its bytes
unfoldable pub part_of : (payload list : List ℕ) (k : ℕ) → List ℕ
part_of payload list k = let s = span_of list (length payload) k in take s.len (drop s.start payload)

-- a list whose segments fill a payload of n bytes: no number is left over, and the counts sum to n
pub record Fills (list : List ℕ) (n : ℕ) : Type 0 where
  pub whole : length list % 2 ≡ 0
  pub sums : start_of list (length list / 2) ≡ n
