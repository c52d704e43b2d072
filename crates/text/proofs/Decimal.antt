-- A number in decimal: its last digit, the number without it, at most n digits; and read back it is the number.
use mathlib.Core.Path.{◌≡◌, refl}
use mathlib.Core.Logic.{◌≢◌, by_cases}
use mathlib.Core.List.{List, [], ◌∷◌, ◌++◌}
use Prim.Native.Nat.{ℕ, zero, suc, ◌+◌, ◌-◌, ◌*◌, ◌/◌, ◌%◌, ◌≤◌, ◌<◌, ◌^◌}
use native.Mathlib.Nat.{pow-zero, pow-suc}
use native.Mathlib.Numerals.{sub-one}
use native.Mathlib.Decide.{dec_lt}
use native.Mathlib.Omega.{arith}
use lib.ListN.{length, length-append}
use borrow.Author.Tests.{lt-ltb, le-ltb}
use Rattle.text.specs.Text.{decimal}

pub none : (n x : ℕ) → n ≡ 0 → decimal n x ≡ []
unfolding decimal
none zero x e = refl
none (suc n) x e = absurd (omega arith)

pub last : (n x : ℕ) → n ≢ 0 → x < 10 → decimal n x ≡ (48 + x % 10) ∷ []
unfolding decimal
last zero x f h = absurd (f refl)
last (suc n) x f h = rw (lt-ltb x 10 h)

pub front : (n x : ℕ) → n ≢ 0 → 10 ≤ x → decimal n x ≡ decimal (n - 1) (x / 10) ++ ((48 + x % 10) ∷ [])
unfolding decimal
front zero x f h = absurd (f refl)
front (suc n) x f h = rw (le-ltb x 10 h, sub-one)

pub most : (n x : ℕ) → length (decimal n x) ≤ n
most zero x = rw (none zero x refl) (omega arith)
most (suc n) x =
    by_cases (dec_lt x 10) (λ (h : x < 10). rw (last (suc n) x (λ e. omega arith) h) (omega arith))
    (λ (h : (x < 10) → ⊥). rw (front (suc n) x (λ e. omega arith) (omega arith), sub-one, length-append) (omega (arith, most n (x / 10))))

-- ---- read back, the digits are the number

-- the number that digits make, after those that made x
unfoldable pub value : (x : ℕ) → List ℕ → ℕ
value x [] = x
value x (d ∷ ds) = value (x * 10 + (d - 48)) ds

value_last : (x : ℕ) (ds : List ℕ) (d : ℕ) → value x (ds ++ (d ∷ [])) ≡ value x ds * 10 + (d - 48)
unfolding value
value_last x [] d = refl
value_last x (e ∷ ds) d = value_last (x * 10 + (e - 48)) ds d

pub read_back : (n x : ℕ) → x < 10 ^ n → value 0 (decimal n x) ≡ x
unfolding value
read_back zero x h = rw (none zero x refl) (omega (arith, rw pow-zero at h))
read_back (suc n) x h =
    by_cases (dec_lt x 10) (λ (g : x < 10). rw (last (suc n) x (λ e. omega arith) g) (omega arith))
    (λ (g : (x < 10) → ⊥).
    let small : x / 10 < 10 ^ n = omega (arith, rw pow-suc at h) in
    rw (front (suc n) x (λ e. omega arith) (omega arith), value_last, sub-one, read_back n (x / 10) small) (omega arith))
