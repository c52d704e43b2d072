-- Alignment centres: at most three, and each leaves room for its pattern; one pattern more keeps the matrix's length.
use mathlib.Core.Path.{◌≡◌, refl, ap, ◌∙◌}
use mathlib.Core.Logic.{⊎_elim}
use mathlib.Core.Bool.{Bool, true, false, cond}
use mathlib.Core.List.{List}
use Prim.Native.Nat.{ℕ, zero, suc, ◌+◌, ◌-◌, ◌*◌, ◌/◌, ◌%◌, ◌≤◌, ◌<◌}
use native.Mathlib.Nat.{not-suc-le-zero, add-zero, zero-mul, mul-add-div_right, mul-add-mod_self_right, div-eq_of_lt, mod-eq_of_lt}
use native.Mathlib.Omega.{arith}
use lib.Dec.{T, leb, leb→le}
use lib.ListN.{length, get_or, set}
use Rattle.basics.specs.Bits.{bit_of}
use Rattle.basics.specs.Walk.{walked}
use Rattle.basics.proofs.Walk.{walked_length}
use Rattle.basics.proofs.Test.{all, at, grid, both, either, either_cases}
use Rattle.tables.specs.Tables.{side, centres}
use Rattle.modules.specs.Kinds.{square_place, timing_place, timing_value, format_place, format_value, alignment_dark, at_finder, aligned_one, aligned, frame_on}
use Rattle.modules.proofs.Open.{every}
use Rattle.modules.proofs.Tests.{versions, at_version, both_left, both_right}

few_tested : T (versions (λ v. leb (length (centres v)) 3))
unfolding every
few_tested = tt

inside : ℕ → ℕ → Bool
inside v k =
    either (leb (length (centres v)) k) (both (leb 6 (get_or (centres v) k 0)) (leb (get_or (centres v) k 0 + 7) (side v)))

inside_tested : T (versions (λ v. all 3 (inside v)))
unfolding every inside
inside_tested = tt

module _ (v : ℕ) (least : 1 ≤ v) (most : v ≤ 10) where
  pub centres_few : length (centres v) ≤ 3
  centres_few = leb→le _ _ (at_version (λ v. leb (length (centres v)) 3) few_tested v least most)

  pub centre_inside : (k : ℕ) → k < length (centres v) → (6 ≤ get_or (centres v) k 0) × (get_or (centres v) k 0 + 7 ≤ side v)
  unfolding inside
  centre_inside k h =
      let c : ℕ = get_or (centres v) k 0 in
      ⊎_elim (λ t. absurd (past (leb→le (length (centres v)) k t)))
      (λ t. (leb→le 6 c (both_left (leb 6 c) (leb (c + 7) (side v)) t), leb→le (c + 7) (side v) (both_right (leb 6 c) (leb (c + 7) (side v)) t)))
      (either_cases (leb (length (centres v)) k) (both (leb 6 c) (leb (c + 7) (side v)))
      (at 3 (inside v) (at_version (λ v. all 3 (inside v)) inside_tested v least most) k (omega (arith, centres_few))))
    where
      past : length (centres v) ≤ k → ⊥
      past l = omega arith

pub some : (n t : ℕ) → t < n * n → 1 ≤ n
some zero t h = absurd (not-suc-le-zero h)
some (suc n) t h = omega arith

either_length : (t : Bool) (a b : List ℕ) → length b ≡ length a → length (cond t a b) ≡ length a
either_length true a b e = refl
either_length false a b e = e

pub aligned_one_length : (v t : ℕ) (out : List ℕ) → length (aligned_one v t out) ≡ length out
unfolding aligned_one
aligned_one_length v t out =
    let n = length (centres v) in
    let i = get_or (centres v) (t / n) 0 in
    let j = get_or (centres v) (t % n) 0 in
    either_length (at_finder n (t / n) (t % n)) out (walked (square_place (side v) (i - 2) (j - 2) 5) (bit_of alignment_dark) 25 out)
    (walked_length (square_place (side v) (i - 2) (j - 2) 5) (bit_of alignment_dark) out 25)

pub aligned_length : (v t : ℕ) (out : List ℕ) → length (aligned v t out) ≡ length out
unfolding aligned
aligned_length v zero out = refl
aligned_length v (suc t) out = aligned_one_length v t (aligned v t out) ∙ aligned_length v t out

pub aligned_none : (v n : ℕ) (out : List ℕ) → out ≡ aligned v (0 * n) out
unfolding aligned
aligned_none v n out = rw zero-mul

-- a row of pairs begins, one pair more, and the row ends
pub aligned_row : (v a n : ℕ) (out₀ out : List ℕ) → out ≡ aligned v (a * n) out₀ → out ≡ aligned v (a * n + 0) out₀
aligned_row v a n out₀ out e = rw add-zero e

pub aligned_more : (v a n b : ℕ) (out₀ out out' : List ℕ) → out ≡ aligned v (a * n + b) out₀ → out' ≡ aligned_one v (a * n + b) out → out' ≡ aligned v (a * n + (b + 1)) out₀
unfolding aligned
aligned_more v a n b out₀ out out' e q =
    let one : a * n + (b + 1) ≡ suc (a * n + b) = omega arith in
    q ∙ rw (one, e)

pub aligned_rows : (v a n b : ℕ) (out₀ out : List ℕ) → out ≡ aligned v (a * n + b) out₀ → b ≡ n → out ≡ aligned v ((a + 1) * n) out₀
aligned_rows v a n b out₀ out e h =
    let count : a * n + b ≡ (a + 1) * n = omega arith in
    rw count at e

pub drawn_length : (v t : ℕ) (out₀ out : List ℕ) → out ≡ aligned v t out₀ → length out ≡ length out₀
drawn_length v t out₀ out e = ap length e ∙ aligned_length v t out₀

-- ---- one pattern, from the numbers as the code has them

-- pair (a, b) of n centres, by its number
row_of : (n a b : ℕ) → b < n → (a * n + b) / n ≡ a
row_of n a b h = let some : 0 < n = omega arith in mul-add-div_right some a b ∙ ap (λ (k : ℕ). a + k) (div-eq_of_lt h) ∙ add-zero a

column_of : (n a b : ℕ) → b < n → (a * n + b) % n ≡ b
column_of n a b h = mul-add-mod_self_right a n b ∙ mod-eq_of_lt h

module _ (v a b n : ℕ) (e : n ≡ length (centres v)) (h : b < length (centres v)) where
  pub aligned_skip : (out : List ℕ) → at_finder n a b ≡ true → out ≡ aligned_one v (a * length (centres v) + b) out
  unfolding aligned_one
  aligned_skip out f = rw (row_of _ a b h, column_of _ a b h, rw e at f)

  pub aligned_square : (i j s : ℕ) (out out' : List ℕ) → at_finder n a b ≡ false
      → i ≡ get_or (centres v) a 0 → j ≡ get_or (centres v) b 0 → s ≡ side v
      → out' ≡ walked (square_place s (i - 2) (j - 2) 5) (bit_of alignment_dark) 25 out → out' ≡ aligned_one v (a * length (centres v) + b) out
  unfolding aligned_one
  aligned_square i j s out out' f hi hj hs q =
      q ∙ rw (hs, hi, hj, row_of (length (centres v)) a b h, column_of (length (centres v)) a b h, rw e at f)

pub small_product : (a b : ℕ) → a < 3 → b < 3 → a * b ≤ 4
small_product a b ha hb = leb→le _ _ (grid 3 3 (λ a b. leb (a * b) 4) tt a b ha hb)

pub squared : (n : ℕ) → n ≤ 3 → n * n ≤ 9
squared n h = leb→le _ _ (at 4 (λ n. leb (n * n) 9) tt n (omega arith))

-- timing, alignment, format bits and one store, from the numbers and the matrices as the code has them
pub frame_made : (v s p : ℕ) (out out₁ out₂ out₃ : List ℕ) → s ≡ side v → out₁ ≡ walked (timing_place s) timing_value (2 * (s - 16)) out
    → out₂ ≡ aligned v (length (centres v) * length (centres v)) out₁ → out₃ ≡ walked (format_place v) format_value 30 out₂
    → p ≡ (s - 8) * s + 8 → set out₃ p 1 ≡ frame_on v out
unfolding frame_on
frame_made v s p out out₁ out₂ out₃ sized timed aligns formatted at = rw (formatted, aligns, timed, at, sized)
