-- The unreadable places, taken out of the sums one after the other, from the last place to the first.
use mathlib.Core.Path.{◌≡◌, refl, sym, ap, subst, ◌∙◌, fun_ext}
use mathlib.Core.Bool.{Bool, true, false, not, cond}
use mathlib.Core.List.{List, ◌∷◌}
use Prim.Native.Nat.{ℕ, suc, ◌+◌, ◌-◌, ◌<◌}
use native.Mathlib.Nat.{sub-zero}
use native.Mathlib.Numerals.{add-one}
use native.Mathlib.Omega.{arith}
use lib.Dec.{eqb}
use lib.ListN.{length, get_or}
use Rattle.field.specs.Field.{pow_n, dbl_n}
use Rattle.field.proofs.Byte.{elt}
use Rattle.theory.proofs.Places.{erase, erase_all}
use Rattle.theory.proofs.Gf.{gf256, locators}
use Rattle.corrector.specs.Lanes.{filled, times_plus, lowered, poly}
use Rattle.corrector.specs.Places.{picked, marked}
use Rattle.corrector.proofs.Rows.{Row, erased_row}

module _ (flags s : List ℕ) where
  -- what is left to be taken out of the row makes of it what all of them make of s
  abbrev pub Erasing : (r : List ℕ) (j : ℕ) → Type 0
  Erasing r j =
      (h : ℕ) → erase_all gf256 (locators (length flags)) (picked (marked flags) j) (poly r) h ≡ erase_all gf256 (locators (length flags)) (picked (marked flags) (length flags)) (poly s) h

  by_flag : (r : List ℕ) (x j : ℕ) → Row r → locators (length flags) j ≡ elt x → (b : Bool) (h : ℕ) →
      erase_all gf256 (locators (length flags)) (picked (marked flags) j) (poly (cond b r (times_plus r (filled x) (lowered r 1)))) h
      ≡ erase_all gf256 (locators (length flags)) (cond (not b) (j ∷ picked (marked flags) j) (picked (marked flags) j)) (poly r) h
  unfolding erase_all
  by_flag r x j row e true h = refl
  by_flag r x j row e false h =
      ap (λ f. erase_all gf256 (locators (length flags)) (picked (marked flags) j) f h) (fun_ext (λ k. erased_row r x row k ∙ ap (λ y. erase gf256 y (poly r) k) (sym e)))

  pub erasing_step : (r : List ℕ) (x j : ℕ) → Row r → x ≡ pow_n (length flags - suc j) → Erasing r (suc j) → Erasing (cond (eqb (get_or flags j 0) 0) r (times_plus r (filled x) (lowered r 1))) j
  unfolding picked marked locators
  erasing_step r x j row e inv h = by_flag r x j row (ap elt (sym e)) (eqb (get_or flags j 0) 0) h ∙ inv h

  pub erasing_start : Erasing s (length flags - 0)
  erasing_start h = rw sub-zero

  -- a turn of the loop, after m of them
  pub erasing_turn :
      (r : List ℕ) (x m flag : ℕ) (t : List ℕ) (y : ℕ) → m < length flags → flag ≡ get_or flags (length flags - suc m) 0 → Row r → x ≡ pow_n m →
      t ≡ cond (eqb flag 0) r (times_plus r (filled x) (lowered r 1)) → y ≡ dbl_n x → Erasing r (length flags - m) →
      (y ≡ pow_n (m + 1)) × Erasing t (length flags - (m + 1))
  unfolding pow_n
  erasing_turn r x m flag t y l e row p f g inv =
      let j : length flags - suc m ≡ length flags - (m + 1) = omega arith in
      let more : length flags - m ≡ suc (length flags - suc m) = omega arith in
      let exponent : m ≡ length flags - suc (length flags - suc m) = omega arith in (
        rw (add-one, g, p),
        subst (λ k. Erasing t k) j
            (rw (f, e) (erasing_step r x (length flags - suc m) row (p ∙ ap pow_n exponent) (subst (λ k. Erasing r k) more inv))),
      )

-- the last place has the locator 1
pub power_start : 1 ≡ pow_n 0
unfolding pow_n
power_start = refl
