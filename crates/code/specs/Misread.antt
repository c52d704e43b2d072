-- What it takes to read a block as another codeword than the drawn one.
use Rattle.std.specs.Prelude.{◌≡◌, ◌≢◌, List, ℕ, ◌+◌, ◌-◌, ◌/◌, ◌≤◌, length}
use Rattle.code.specs.Code.{Codeword, Stands, differing, unreadable}

-- beyond its bound a block may stand for another codeword: then at least n + 1 − floor((room − e)/2) of its codewords were changed or cannot be read,
-- e of them unreadable
abbrev pub MisreadNeeds : Type 0
MisreadNeeds =
    (n room : ℕ) (w flags drawn c : List ℕ) (t e : ℕ) → length w ≤ 255 → length drawn ≡ length w → Codeword n drawn
    → Stands n room w flags c t e → c ≢ drawn → n + 1 ≤ differing w flags drawn + unreadable flags + (room - e) / 2
