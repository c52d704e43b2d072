-- The suspected places, listed from the last to the first: what a turn of the walk adds, and the locators of the next 32 places.
use mathlib.Core.Path.{◌≡◌, refl, sym, ap, ap₂, subst, ◌∙◌}
use mathlib.Core.Logic.{◌≢◌, by_cases}
use mathlib.Core.Bool.{Bool, true, false, not, ◌||◌}
use mathlib.Core.List.{List, [], ◌∷◌, ◌++◌, append_assoc}
use Prim.Native.Nat.{ℕ, suc, ◌+◌, ◌-◌, ◌≤◌, ◌<◌}
use native.Mathlib.Numerals.{add-one}
use native.Mathlib.Decide.{dec_lt, ℕ_discrete}
use native.Mathlib.Omega.{arith}
use lib.Bits.{bit_xor, xor_zero_r}
use lib.Dec.{T, eqb, ltb, ltb→lt}
use lib.ListN.{length, get_or, take, set, length-append, length-set, get_or-eq_default}
use lib.Seq.{take-suc-set, length-take-le, get_or-set_same, get_or-set_other}
use Rattle.basics.proofs.Test.{all, at, same, same_1}
use Rattle.basics.proofs.Build.{build_get}
use Rattle.field.specs.Field.{pow_n, mul_n}
use Rattle.field.proofs.Laws.{pow_add}
use Rattle.field.proofs.Byte.{val, elt, val_elt}
use Rattle.theory.proofs.Run.{eval}
use Rattle.theory.proofs.Gf.{gf256, locators}
use Rattle.corrector.specs.Lanes.{filled, times_plus, poly}
use Rattle.corrector.specs.Places.{picked, marked, suspect, Found, Noted}
use Rattle.corrector.proofs.Rows.{Row, filled_length, filled_at, zeros_at}

pub picked_yes : (test : ℕ → Bool) (j : ℕ) → test j ≡ true → picked test (suc j) ≡ j ∷ picked test j
unfolding picked
picked_yes test j e = rw e

pub picked_no : (test : ℕ → Bool) (j : ℕ) → test j ≡ false → picked test (suc j) ≡ picked test j
unfolding picked
picked_no test j e = rw e

module _ {flags a : List ℕ} {j : ℕ} {at xs : List ℕ} {count : ℕ} (f : Found flags a (suc j) at xs count) where
  pub found_pass : suspect flags a j ≡ false → Found flags a j at xs count
  found_pass e = record {
    small = f.small;
    long = f.long;
    wide = f.wide;
    listed = λ h. ap (λ t. take count at ++ t) (sym (picked_no (suspect flags a) j e)) ∙ f.listed h;
    many = f.many;
    located = f.located;
  }

  pub found_more : (x : ℕ) → suspect flags a j ≡ true → count ≢ 31 → x ≡ pow_n (length flags - suc j) → Found flags a j (set at count j) (set xs count x) (count + 1)
  found_more x e n p = record {
    small = omega (arith, f.small);
    long = length-set at count j ∙ f.long;
    wide = length-set xs count x ∙ f.wide;
    listed = λ h. rw add-one (ap (λ t. t ++ picked (suspect flags a) j) (take-suc-set at count j room) ∙ append_assoc (take count at) (j ∷ []) (picked (suspect flags a) j) ∙ here);
    many = λ h. let l = ap length here in omega (arith, simp (length-append, length-take-le count at (omega (arith, room))) at l);
    located = λ k h. by_cases (ℕ_discrete k count) (λ (q : k ≡ count). rw q (new k)) (λ q. old k h q);
  }
    where
      room : count < length at
      room = omega (arith, f.small, f.long)

      here : take count at ++ (j ∷ picked (suspect flags a) j) ≡ picked (suspect flags a) (length flags)
      here = ap (λ t. take count at ++ t) (sym (picked_yes (suspect flags a) j e)) ∙ f.listed (omega (arith, f.small))

      new : (k : ℕ) → get_or (set xs count x) count 0 ≡ pow_n (length flags - suc (get_or (set at count j) count 0))
      new k = get_or-set_same xs count x 0 (omega (arith, f.small, f.wide)) ∙ p ∙ ap (λ i. pow_n (length flags - suc i)) (sym (get_or-set_same at count j 0 room))

      old : (k : ℕ) → k < count + 1 → k ≢ count → get_or (set xs count x) k 0 ≡ pow_n (length flags - suc (get_or (set at count j) k 0))
      old k h q =
          get_or-set_other xs count k x 0 q ∙ f.located k (omega arith) ∙ ap (λ i. pow_n (length flags - suc i)) (sym (get_or-set_other at count k j 0 q))

-- 2 to the powers 0 to 31
unfoldable pub powers : List ℕ
powers =
    1 ∷ 2 ∷ 4 ∷ 8 ∷ 16 ∷ 32 ∷ 64 ∷ 128 ∷ 29 ∷ 58 ∷ 116 ∷ 232 ∷ 205 ∷ 135 ∷ 19 ∷ 38 ∷ 76 ∷ 152 ∷ 45 ∷ 90 ∷ 180 ∷ 117 ∷ 234 ∷ 201 ∷ 143 ∷ 3 ∷ 6 ∷ 12 ∷ 24 ∷ 48 ∷ 96 ∷ 192 ∷ []

powers_tested : T (same 32 (λ k. get_or powers k 0) pow_n)
unfolding powers pow_n
powers_tested = tt

bytes_tested : T (all 32 (λ k. ltb (get_or powers k 0) 256))
unfolding powers
bytes_tested = tt

pub powers_row : Row powers
unfolding powers
powers_row = record {
  long = refl;
  bytes = λ k. by_cases (dec_lt k 32) (λ h. ltb→lt (get_or powers k 0) 256 (at 32 (λ k. ltb (get_or powers k 0) 256) bytes_tested k h)) (λ h. let e : get_or powers k 0 ≡ 0 = get_or-eq_default powers 0 {n = k} (omega arith) in omega arith);
}

-- 32 locators in a row, the first of them that of the place before which there are k
abbrev pub Located : (k : ℕ) (xs : List ℕ) → Type 0
Located k xs = (i : ℕ) → i < 32 → get_or xs i 0 ≡ pow_n (k + i)

pub located_start : Located 0 powers
located_start i l = same_1 32 (λ k. get_or powers k 0) pow_n powers_tested i l ∙ ap pow_n (omega arith)

-- 157 is 2 to the power 32
stride : pow_n 32 ≡ 157
unfolding pow_n
stride = refl

pub located_turn : (k : ℕ) (xs : List ℕ) → Located k xs → Located (k + 32) (times_plus xs (filled 157) (filled 0))
unfolding times_plus filled
located_turn k xs e i h =
    build_get _ 32 i h
    ∙ ap₂ (λ (x y : ℕ). bit_xor (mul_n (get_or xs i 0) x) y) (filled_at 32 157 i h) (zeros_at 32 i)
    ∙ xor_zero_r _
    ∙ ap₂ mul_n (e i h) (sym stride)
    ∙ pow_add (k + i) 32
    ∙ ap pow_n (omega arith)

-- the test of a place by the code is that of the definition
pub tested : (flags a : List ℕ) (j x v : ℕ) → v < 256 → x ≡ pow_n (length flags - suc j) → elt v ≡ eval gf256 32 (poly a) (elt x) → suspect flags a j ≡ not (eqb (get_or flags j 0) 0) || eqb v 0
unfolding suspect marked locators
tested flags a j x v bv p e = ap (λ z. not (eqb (get_or flags j 0) 0) || eqb z 0) (ap val (ap (λ y. eval gf256 32 (poly a) (elt y)) (sym p) ∙ sym e) ∙ val_elt v bv)

pub found_start : (flags a : List ℕ) → Found flags a (length flags) (filled 0) (filled 0) 0
found_start flags a = record {
  small = omega arith;
  long = filled_length 0;
  wide = filled_length 0;
  listed = λ h. refl;
  many = λ h. absurd (omega arith);
  located = λ k h. absurd (omega arith);
}

-- one place of a group more
pub grouped_turn :
    (flags vs xs : List ℕ) (top many i : ℕ) (at₀ ys₀ : List ℕ) (count₀ : ℕ) (at ys : List ℕ) (count : ℕ) (at' ys' : List ℕ) (count' : ℕ) →
    top ≤ length flags → many ≤ top → i < many → get_or vs i 0 < 256 → Noted (get_or flags (top - 1 - i) 0) (get_or vs i 0) (top - 1 - i) (get_or xs i 0) at ys count at' ys' count' →
    ((a : List ℕ) → ((i : ℕ) → i < many → poly vs i ≡ eval gf256 32 (poly a) (poly xs i)) → ((i : ℕ) → i < many → get_or xs i 0 ≡ pow_n (length flags - (top - i))) → Found flags a top at₀ ys₀ count₀ → Found flags a (top - i) at ys count) →
    (a : List ℕ) → ((i : ℕ) → i < many → poly vs i ≡ eval gf256 32 (poly a) (poly xs i)) → ((i : ℕ) → i < many → get_or xs i 0 ≡ pow_n (length flags - (top - i))) → Found flags a top at₀ ys₀ count₀ → Found flags a (top - (i + 1)) at' ys' count'
grouped_turn flags vs xs top many i at₀ ys₀ count₀ at ys count at' ys' count' l m h bv n before a ev ex f =
    let this : top - i ≡ suc (top - 1 - i) = omega arith in
    let next : top - 1 - i ≡ top - (i + 1) = omega arith in
    let x : get_or xs i 0 ≡ pow_n (length flags - suc (top - 1 - i)) = ex i h ∙ ap (λ (k : ℕ). pow_n (length flags - k)) this in
    subst (λ (k : ℕ). Found flags a k at' ys' count') next
    (n flags a (omega arith) (tested flags a (top - 1 - i) (get_or xs i 0) (get_or vs i 0) bv x (ev i h)) x (subst (λ (k : ℕ). Found flags a k at ys count) this (before a ev ex f)))
