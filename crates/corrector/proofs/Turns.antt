-- A turn of each loop over polynomials: their product by a linear factor, the sums that they make, and their values from the highest coefficient down.
use mathlib.Core.Path.{◌≡◌, refl, sym, ap, ap₂, ◌∙◌, fun_ext}
use mathlib.Core.Logic.{by_cases}
use mathlib.Core.List.{List, ◌∷◌}
use Prim.Native.Nat.{ℕ, zero, suc, ◌+◌, ◌-◌, ◌≤◌, ◌<◌}
use native.Mathlib.Numerals.{add-one, sub-one}
use native.Mathlib.Decide.{dec_lt}
use native.Mathlib.Omega.{arith}
use lib.Bits.{bit_xor, xor_zero_r}
use lib.ListN.{length, get_or, replicate, get_or-eq_default}
use Rattle.basics.proofs.Build.{build_get}
use Rattle.field.specs.Field.{mul_n, even_powers, inv_n}
use Rattle.field.proofs.Laws.{mul_assoc, mul_one, one_mul, mul_lt, inv_lt}
use Rattle.field.proofs.Byte.{elt, inv, elt_mul}
use Rattle.theory.proofs.Sum.{sum}
use Rattle.theory.proofs.Run.{eval, one, shift, mix, Below}
use Rattle.theory.proofs.Algebra.{⊕_comm, zero-⊗, sum_few}
use Rattle.theory.proofs.Gf.{gf256}
use Rattle.theory.proofs.Values.{times, product, product_monic, evaluator, evaluator_below, tail, tail_step, tail_end, slope, slopes, slopes_step, slopes_end}
use Rattle.corrector.specs.Lanes.{filled, times_plus, lowered, raised, poly}
use Rattle.corrector.proofs.Rows.{Row, row_below, turned, scaled, poly_times, poly_raised, poly_lowered, poly_zeros, poly_filled, built_past, raised_length, lowered_row, filled_length, filled_at, zeros_at}
use Rattle.corrector.specs.Places.{Magnitudes}
use Rattle.corrector.proofs.Running.{elt_inv}
open gf256 use {◌⊕◌, ◌⊗◌, 𝟘, 𝟙}

-- ---- the product by the variable minus x

pub product_start : (xs : List ℕ) (h : ℕ) → poly (1 ∷ replicate 31 0) h ≡ product gf256 (poly xs) 0 h
unfolding product one
product_start xs zero = refl
product_start xs (suc h) = ap elt (zeros_at 31 h)

pub product_turn :
    (xs r : List ℕ) (k : ℕ) → k < 30 → Row r → ((h : ℕ) → poly r h ≡ product gf256 (poly xs) k h) →
    (h : ℕ) → poly (times_plus r (filled (get_or xs k 0)) (raised r 1)) h ≡ product gf256 (poly xs) (k + 1) h
unfolding product times mix shift times_plus
product_turn xs r k l row e h =
    by_cases
    (dec_lt h 32)
    (λ m. scaled r (raised r 1) (get_or xs k 0) row (raised_length r 1) h ∙ turned _ _ _ ∙ ap₂ (λ u v. u ⊕ poly xs k ⊗ v) (poly_raised r 1 h m ∙ ap (λ f. shift gf256 1 f h) (fun_ext e)) (e h) ∙ ap (λ i. product gf256 (poly xs) i h) (sym (add-one k)))
    (λ m. built_past _ h (omega arith) ∙ sym ((product_monic gf256 (poly xs) (k + 1)).below h (omega arith)))

-- ---- the sums that a polynomial makes

abbrev pub Summed : (a s r : List ℕ) (k : ℕ) → Type 0
Summed a s r k = (h : ℕ) → poly r h ≡ sum gf256 k (λ q. poly a (suc (h + q)) ⊗ poly s q)

pub summed_start : (a s : List ℕ) → Summed a s (filled 0) 0
unfolding sum
summed_start a s h = poly_zeros h

pub summed_turn :
    (a s r : List ℕ) (k : ℕ) → ((i : ℕ) → get_or a i 0 < 256) → length a ≡ 32 → length r ≡ 32 → Summed a s r k →
    Summed a s (times_plus (lowered a (k + 1)) (filled (get_or s k 0)) r) (k + 1)
unfolding sum
summed_turn a s r k ba la lr e h =
    scaled (lowered a (k + 1)) r (get_or s k 0) (lowered_row a (k + 1) ba) lr h
    ∙ ap₂ (λ u v. u ⊗ poly s k ⊕ v) (poly_lowered a (k + 1) h la ∙ ap (poly a) (omega arith)) (e h)
    ∙ ⊕_comm gf256 _ _
    ∙ ap (λ i. sum gf256 i (λ q. poly a (suc (h + q)) ⊗ poly s q)) (sym (add-one k))

-- those past the last coefficient add nothing
pub summed_all : (a s r : List ℕ) (k : ℕ) → k ≤ 32 → Below gf256 (suc k) (poly a) → Summed a s r k → (h : ℕ) → poly r h ≡ evaluator gf256 32 (poly a) (poly s) h
unfolding evaluator
summed_all a s r k l b e h = e h ∙ sym (sum_few gf256 32 k _ l (λ q m. ap (λ x. x ⊗ poly s q) (b (suc (h + q)) (omega arith)) ∙ zero-⊗ gf256 (poly s q)))

-- ---- values

abbrev pub Valued : (a xs r : List ℕ) (k : ℕ) → Type 0
Valued a xs r k = (i : ℕ) → i < 32 → poly r i ≡ tail gf256 32 (poly a) (poly xs i) k

pub valued_start : (a xs : List ℕ) (m : ℕ) → Below gf256 m (poly a) → Valued a xs (filled 0) m
valued_start a xs m b i l = poly_zeros i ∙ sym (tail_end gf256 32 (poly a) (poly xs i) m b)

pub valued_turn :
    (a xs r : List ℕ) (k x : ℕ) → Row a → Row r → length xs ≡ 32 → x ≡ get_or a k 0 → Valued a xs r (suc k) → Valued a xs (times_plus r xs (filled x)) k
valued_turn a xs r k x ra rr lx p e i l =
    poly_times r xs (filled x) rr lx (filled_length x) i
    ∙ ap₂ (λ u v. u ⊗ poly xs i ⊕ v) (e i l) (poly_filled x i l ∙ ap elt p)
    ∙ turned _ _ _
    ∙ sym (tail_step gf256 32 (poly a) (poly xs i) k (row_below ra))

abbrev pub Sloped : (a xs r : List ℕ) (k : ℕ) → Type 0
Sloped a xs r k = (i : ℕ) → i < 32 → poly r i ≡ slopes gf256 32 (poly a) (poly xs i) k

pub sloped_start : (a xs : List ℕ) (m : ℕ) → Below gf256 m (poly a) → Sloped a xs (filled 0) m
sloped_start a xs m b i l = poly_zeros i ∙ sym (slopes_end gf256 32 (poly a) (poly xs i) m b)

pub sloped_turn :
    (a xs r p : List ℕ) (k : ℕ) → Row a → Row r → length xs ≡ 32 → length p ≡ 32 → Valued a xs p (suc k) → Sloped a xs r (suc k) → Sloped a xs (times_plus r xs p) k
sloped_turn a xs r p k ra rr lx lp v e i l =
    poly_times r xs p rr lx lp i
    ∙ ap₂ (λ u w. u ⊗ poly xs i ⊕ w) (e i l) (v i l)
    ∙ turned _ _ _
    ∙ sym (slopes_step gf256 32 (poly a) (poly xs i) k (row_below ra))

-- ---- inverses

-- what is left of the powers makes of each lane its inverse
abbrev pub Inverting : (a r s : List ℕ) (k : ℕ) → Type 0
Inverting a r s k = (i : ℕ) → i < 32 → mul_n (get_or r i 0) (even_powers k (get_or s i 0)) ≡ inv_n (get_or a i 0)

pub ones_row : Row (filled 1)
unfolding filled
ones_row = record {
  long = filled_length 1;
  bytes = λ k. by_cases (dec_lt k 32) (λ h. let e : get_or (filled 1) k 0 ≡ 1 = filled_at 32 1 k h in omega arith) (λ h. let e : get_or (filled 1) k 0 ≡ 0 = get_or-eq_default (filled 1) 0 {n = k} (rw (filled_length 1) (omega arith)) in omega arith);
}

pub inverting_start : (a : List ℕ) → Row a → Inverting a (filled 1) a 7
unfolding filled inv_n
inverting_start a ra i l = ap (λ (x : ℕ). mul_n x (even_powers 7 (get_or a i 0))) (filled_at 32 1 i l) ∙ one_mul _ (inv_lt (get_or a i 0) (ra.bytes i))

lane : (a b : List ℕ) (i : ℕ) → i < 32 → get_or (times_plus a b (filled 0)) i 0 ≡ mul_n (get_or a i 0) (get_or b i 0)
unfolding times_plus filled
lane a b i l = build_get _ 32 i l ∙ ap (λ (x : ℕ). bit_xor (mul_n (get_or a i 0) (get_or b i 0)) x) (zeros_at 32 i) ∙ xor_zero_r _

pub inverting_turn :
    (a r s t u : List ℕ) (k : ℕ) → 0 < k → Row r → Row s → t ≡ times_plus s s (filled 0) → u ≡ times_plus r t (filled 0) → Inverting a r s k → Inverting a u t (k - 1)
unfolding even_powers
inverting_turn a r s t u zero p rr rs et eu e i l = absurd (omega arith)
inverting_turn a r s t u (suc k) p rr rs et eu e i l =
    let square : get_or t i 0 ≡ mul_n (get_or s i 0) (get_or s i 0) = ap (λ x. get_or x i 0) et ∙ lane s s i l in
    let product : get_or u i 0 ≡ mul_n (get_or r i 0) (get_or t i 0) = ap (λ x. get_or x i 0) eu ∙ lane r t i l in
    rw (sub-one (suc k)) (rw (product, square)
    (mul_assoc (get_or r i 0) (mul_n (get_or s i 0) (get_or s i 0)) (even_powers k (mul_n (get_or s i 0) (get_or s i 0))) (rr.bytes i) (mul_lt (get_or s i 0) (get_or s i 0) (rs.bytes i)) ∙ e i l))

pub inverting_all : (a r s : List ℕ) → Row r → Inverting a r s 0 → (i : ℕ) → i < 32 → get_or r i 0 ≡ inv_n (get_or a i 0)
unfolding even_powers
inverting_all a r s rr e i l = sym (mul_one (get_or r i 0) (rr.bytes i)) ∙ e i l

-- ---- what is wrong at each locator

pub magnitudes_made :
    (xs : List ℕ) (count : ℕ) (s lam om tops bottoms under r : List ℕ) →
    ((h : ℕ) → poly lam h ≡ product gf256 (poly xs) count h) →
    ((h : ℕ) → poly om h ≡ evaluator gf256 32 (poly lam) (poly s) h) →
    ((i : ℕ) → i < 32 → poly tops i ≡ eval gf256 32 (poly om) (poly xs i)) →
    ((i : ℕ) → i < 32 → poly bottoms i ≡ slope gf256 32 (poly lam) (poly xs i)) →
    ((i : ℕ) → i < 32 → get_or under i 0 ≡ inv_n (get_or bottoms i 0)) →
    r ≡ times_plus tops under (filled 0) → Row tops → Row bottoms → Magnitudes xs count s r
magnitudes_made xs count s lam om tops bottoms under r el eo et eb eu er rt rb i l =
    ap (λ t. elt (get_or t i 0)) er
    ∙ ap elt (lane tops under i l)
    ∙ elt_mul (get_or tops i 0) (get_or under i 0) (rt.bytes i)
    ∙ ap₂ (λ x y. x ⊗ y)
    (et i l ∙ ap (λ g. eval gf256 32 g (poly xs i)) (fun_ext eo ∙ ap (λ g. evaluator gf256 32 g (poly s)) (fun_ext el)))
    (ap elt (eu i l) ∙ elt_inv (get_or bottoms i 0) (rb.bytes i) ∙ ap inv (eb i l ∙ ap (λ g. slope gf256 32 g (poly xs i)) (fun_ext el)))

-- the product of count factors has no more than count + 1 coefficients, and the sums that it makes no more than count
pub product_few : (xs lam : List ℕ) (count : ℕ) → ((h : ℕ) → poly lam h ≡ product gf256 (poly xs) count h) → Below gf256 (suc count) (poly lam)
product_few xs lam count e k l = e k ∙ (product_monic gf256 (poly xs) count).below k l

pub evaluator_few : (lam s om : List ℕ) (count : ℕ) → Below gf256 (suc count) (poly lam) → ((h : ℕ) → poly om h ≡ evaluator gf256 32 (poly lam) (poly s) h) → Below gf256 count (poly om)
evaluator_few lam s om count b e k l = e k ∙ evaluator_below gf256 32 count (poly lam) (poly s) b k l
