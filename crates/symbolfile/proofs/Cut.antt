-- A buffer that is longer than the longest lawful file is enough: a longer file is no symbol file, cut or not.
use mathlib.Core.Path.{◌≡◌, refl}
use mathlib.Core.Bool.{Bool, true, false, ◌&&◌}
use mathlib.Core.Logic.{by_cases}
use mathlib.Core.List.{List}
use Prim.Native.Nat.{ℕ, ◌+◌, ◌*◌, ◌≤◌, ◌<◌}
use native.Mathlib.Decide.{dec_le}
use native.Mathlib.Omega.{arith}
use lib.Dec.{leb}
use lib.ListN.{length, get_or, take}
use lib.Seq.{take_all, length-take-le, get_or-take}
use borrow.Author.Tests.{ne_eqb}
use Rattle.basics.specs.Lists.{same}
use Rattle.symbolfile.specs.SymbolFile.{Holds, whole, mark, most_file, opened}
use Rattle.symbolfile.proofs.Header.{square_most}

last_false : (a b : Bool) → a && (b && false) ≡ false
last_false true true = refl
last_false true false = refl
last_false false b = refl

pub long_no : (f : List ℕ) → get_or f 5 0 < 256 → most_file < length f → whole f ≡ false
unfolding whole
long_no f h l =
    rw (ne_eqb (length f) (6 + get_or f 5 0 * get_or f 5 0) (λ e. omega (arith, square_most (get_or f 5 0) h)))
    (last_false (leb 6 (length f)) (same (take 5 f) mark))

pub cut_same : (f : List ℕ) (n : ℕ) → get_or f 5 0 < 256 → most_file < n → opened (Holds (take n f)) ≡ opened (Holds f)
cut_same f n h l =
    by_cases (dec_le (length f) n) (λ (g : length f ≤ n). rw (take_all n f g))
    (λ g.
    let e : length (take n f) ≡ n = length-take-le n f (omega arith) in
    let s : get_or (take n f) 5 0 < 256 = rw (get_or-take n f 5 0 (omega arith)) h in
    rw (long_no (take n f) s (rw e l), long_no f h (omega arith)))
