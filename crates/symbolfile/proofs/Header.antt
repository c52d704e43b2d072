-- The mark and the version of a file are its first five bytes.
use mathlib.Core.Path.{◌≡◌, refl, sym, ◌∙◌}
use mathlib.Core.List.{List, [], ◌∷◌}
use mathlib.Core.Bool.{Bool, true, false, ◌&&◌}
use Prim.Native.Nat.{ℕ, zero, suc, ◌+◌, ◌*◌, ◌≤◌, ◌<◌}
use native.Mathlib.Nat.{mul-le-mul}
use native.Mathlib.Omega.{arith}
use lib.Dec.{eqb, leb}
use lib.ListN.{length, get_or, take}
use lib.Seq.{get_or-take}
use borrow.Author.Tests.{le-leb, lt-leb, ne_eqb}
use Rattle.basics.specs.Lists.{same}
use Rattle.symbolfile.specs.SymbolFile.{whole, mark}

pub first_five : (b : List ℕ) → 5 ≤ length b → take 5 b ≡ get_or b 0 0 ∷ get_or b 1 0 ∷ get_or b 2 0 ∷ get_or b 3 0 ∷ get_or b 4 0 ∷ []
first_five (a₀ ∷ a₁ ∷ a₂ ∷ a₃ ∷ a₄ ∷ b) h = refl
first_five [] h = absurd (omega arith)
first_five (a₀ ∷ []) h = absurd (omega arith)
first_five (a₀ ∷ a₁ ∷ []) h = absurd (omega arith)
first_five (a₀ ∷ a₁ ∷ a₂ ∷ []) h = absurd (omega arith)
first_five (a₀ ∷ a₁ ∷ a₂ ∷ a₃ ∷ []) h = absurd (omega arith)

-- a file of six bytes or more is whole where five bytes are the mark's and the length is right
pub tests : (b : List ℕ) → 6 ≤ length b → whole b
    ≡ (eqb (get_or b 0 0) 75 && (eqb (get_or b 1 0) 81 && (eqb (get_or b 2 0) 83 && (eqb (get_or b 3 0) 0 && (eqb (get_or b 4 0) 1 && true)))))
    && eqb (length b) (6 + get_or b 5 0 * get_or b 5 0)
unfolding whole mark same
tests b h = rw (le-leb 6 (length b) h, first_five b (omega arith))

pub short : (b : List ℕ) → length b < 6 → whole b ≡ false
unfolding whole
short b h = rw (lt-leb 6 (length b) h)

last_no : (t : Bool) → t && false ≡ false
last_no true = refl
last_no false = refl

-- lists that differ at a place are not the same
differ : (xs ys : List ℕ) (i : ℕ) → (get_or xs i 0 ≡ get_or ys i 0 → ⊥) → same xs ys ≡ false
unfolding same
differ [] [] i n = absurd (n refl)
differ [] (y ∷ ys) i n = refl
differ (x ∷ xs) [] i n = refl
differ (x ∷ xs) (y ∷ ys) zero n = rw (ne_eqb x y n)
differ (x ∷ xs) (y ∷ ys) (suc i) n = rw (differ xs ys i n) (last_no (eqb x y))

-- a wrong byte of the mark or the version makes a file no symbol file
pub wrong : (b : List ℕ) (i : ℕ) → i < 5 → (get_or b i 0 ≡ get_or mark i 0 → ⊥) → whole b ≡ false
unfolding whole
wrong b i l n = rw (differ (take 5 b) mark i (λ e. n (sym (get_or-take 5 b i 0 l) ∙ e))) (last_no (leb 6 (length b)))

-- with the mark and the version right, the length decides
pub decided : (b : List ℕ) → 6 ≤ length b → get_or b 0 0 ≡ 75 → get_or b 1 0 ≡ 81 → get_or b 2 0 ≡ 83 → get_or b 3 0 ≡ 0 → get_or b 4 0 ≡ 1
    → whole b ≡ eqb (length b) (6 + get_or b 5 0 * get_or b 5 0)
decided b h e₀ e₁ e₂ e₃ e₄ = tests b h ∙ rw (e₀, e₁, e₂, e₃, e₄)

pub square_most : (s : ℕ) → s < 256 → s * s ≤ 65025
square_most s h = mul-le-mul {n₂ = 255} {m₂ = 255} (omega arith) (omega arith)
