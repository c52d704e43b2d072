-- Places that lie in the matrix, and the words' places from the side as the code has it.
use mathlib.Core.Path.{◌≡◌, sym, ◌∙◌}
use Prim.Native.Nat.{ℕ, suc, ◌+◌, ◌*◌, ◌/◌, ◌≤◌, ◌<◌}
use native.Mathlib.Nat.{le_trans, mul-le-mul_right, suc-mul, div-lt_iff_lt-mul}
use native.Mathlib.Omega.{arith}
use lib.ListN.{get_or}
use Rattle.basics.proofs.Lists.{get_d_map_up_to}
use Rattle.tables.specs.Tables.{side}
use borrow.Author.Tests.{le-leb}
use Rattle.modules.specs.Modules.{format_one, format_two, format_places, version_one, version_two, version_places}

pub square_small : (s : ℕ) → s ≤ 57 → s * s ≤ 3249
square_small s h = le_trans (mul-le-mul_right s h) (omega arith)

pub row_lt : (w t : ℕ) → 1 ≤ w → t < w * w → t / w < w
row_lt w t h l = (div-lt_iff_lt-mul {k = w} {x = t} {y = w} h).1 l

pub small_square : (w : ℕ) → w ≤ 8 → w * w ≤ 64
small_square w h = le_trans (mul-le-mul_right w h) (omega arith)

-- ---- the words' places, from the side as the code has it

module _ (v copy b s r : ℕ) (e : s ≡ side v) where
  pub format_first : copy ≡ 0 → b < 15 → r ≡ format_one s b → r ≡ get_or (format_places v copy) b 0
  unfolding format_places
  format_first h l q = q ∙ rw (e, h) (sym (get_d_map_up_to (format_one (side v)) 15 b 0 l))

  pub format_second : copy ≡ 1 → b < 15 → r ≡ format_two s b → r ≡ get_or (format_places v copy) b 0
  unfolding format_places
  format_second h l q = q ∙ rw (e, h) (sym (get_d_map_up_to (format_two (side v)) 15 b 0 l))

  pub version_first : copy ≡ 0 → 7 ≤ v → b < 18 → r ≡ version_one s b → r ≡ get_or (version_places v copy) b 0
  unfolding version_places
  version_first h m l q = q ∙ rw (e, h, le-leb 7 v m) (sym (get_d_map_up_to (version_one (side v)) 18 b 0 l))

  pub version_second : copy ≡ 1 → 7 ≤ v → b < 18 → r ≡ version_two s b → r ≡ get_or (version_places v copy) b 0
  unfolding version_places
  version_second h m l q = q ∙ rw (e, h, le-leb 7 v m) (sym (get_d_map_up_to (version_two (side v)) 18 b 0 l))

-- row i ends in the matrix
pub row_end : (s i : ℕ) → i < s → i * s + s ≤ s * s
row_end s i h =
    let row : suc i * s ≤ s * s = mul-le-mul_right s h in
    rw suc-mul at row
