-- What a scan of a matrix adds with each module: to the number and the flag of a codeword, and to the data modules met so far.
use mathlib.Core.Path.{◌≡◌, refl, sym, ap, ◌∙◌}
use mathlib.Core.Bool.{Bool, true, false, cond, not, ◌&&◌, ◌||◌}
use mathlib.Core.Logic.{by_cases}
use native.Mathlib.Decide.{ℕ_discrete}
use Rattle.std.proofs.Math.Bool.{or_assoc}
use mathlib.Core.List.{List, [], ◌∷◌, ◌++◌, map}
use Prim.Native.Nat.{ℕ, zero, suc, ◌+◌, ◌-◌, ◌*◌, ◌/◌, ◌%◌, ◌≤◌, ◌<◌}
use native.Mathlib.Nat.{mul-add-div_right, mul-add-mod_self_right, div-eq_of_lt, mod-eq_of_lt, mul-le-mul_right, add-zero, le_of_lt, add-mul, mul_assoc, mul_left_comm}
use native.Mathlib.Numerals.{add-one}
use native.Mathlib.Omega.{arith}
use lib.Dec.{eqb, leb, leb→le}
use Rattle.basics.proofs.Test.{at}
use borrow.Author.Tests.{eq-eqb, ne_eqb}
use lib.ListN.{length, get_or, set, take}
use lib.Seq.{take-suc, take-suc-set}
use Rattle.basics.specs.Bits.{number, number_after}
use Rattle.basics.specs.Lists.{up_to, keep, any, AtMost}
use Rattle.basics.specs.Sums.{one}
use Rattle.basics.proofs.Bits.{number_after_append}
use Rattle.basics.proofs.Lists.{map_append, map_up_to_suc}
use Rattle.tables.specs.Tables.{side, last_version, most_modules}
use Rattle.modules.specs.Modules.{walk, pair_column, is_data}
use Rattle.std.proofs.Common.{Option, Some, None}
use Rattle.std.specs.Option.{unwrap_or, is_some}
use Rattle.scan.specs.Received.{eight, flag, codeword}
use Rattle.scan.specs.Scan.{plain, passed, EightRead, Walked}

-- ---- a codeword's modules

pub number_more : (bs : List ℕ) (t : ℕ) → t < length bs → number (take (t + 1) bs) ≡ number (take t bs) * 2 + get_or bs t 0
unfolding number number_after
number_more bs t h = rw (add-one, take-suc bs t 0 h) (number_after_append 0 (take t bs) (get_or bs t 0 ∷ []))

any_append : (test : ℕ → Bool) (xs ys : List ℕ) → any test (xs ++ ys) ≡ any test xs || any test ys
unfolding any
any_append test [] ys = refl
any_append test (x ∷ xs) ys = rw (any_append test xs ys) (sym (or_assoc (test x) (any test xs) (any test ys)))

none_or : (a : Bool) (x : ℕ) → not (a || (eqb 2 x || false)) ≡ not a && not (eqb x 2)
none_or true x = refl
none_or false x =
    by_cases (ℕ_discrete x 2) (λ (e : x ≡ 2). rw e) (λ (e : x ≡ 2 → ⊥). rw (ne_eqb x 2 e, ne_eqb 2 x (λ k. e (sym k))))

-- one module more, and all can be read
pub readable_more : (bs : List ℕ) (t : ℕ) → t < length bs → not (any (eqb 2) (take t bs)) && not (eqb (get_or bs t 0) 2) ≡ not (any (eqb 2) (take (t + 1) bs))
unfolding any
readable_more bs t h =
    rw (add-one, take-suc bs t 0 h, any_append (eqb 2) (take t bs) (get_or bs t 0 ∷ [])) (sym (none_or (any (eqb 2) (take t bs)) (get_or bs t 0)))

true_or : (a b : Bool) → a ≡ true → a || b ≡ false → ⊥
true_or true b p q = cc
true_or false b p q = cc

or_false_right : (a b : Bool) → a || b ≡ false → b ≡ false
or_false_right true b e = absurd (cc)
or_false_right false b e = e

-- modules that can all be read are bits
pub all_read : (bs : List ℕ) → AtMost 2 bs → any (eqb 2) bs ≡ false → AtMost 1 bs
unfolding any
all_read [] h e k l = absurd (omega arith)
all_read (x ∷ xs) h e zero l =
    let n : ¬ (2 ≡ x) = λ q. true_or (eqb 2 x) (any (eqb 2) xs) (eq-eqb 2 x q) e in
    omega (arith, h 0 (omega arith))
all_read (x ∷ xs) h e (suc k) l = all_read xs (λ i r. h (suc i) (omega arith)) (or_false_right (eqb 2 x) (any (eqb 2) xs) e) k (omega arith)

-- what is written of a codeword that was read, and of its flag
pub word_of : (bs : List ℕ) (q : ℕ) (r : Option ℕ) → EightRead (eight bs q) r → unwrap_or r 0 ≡ codeword bs q
unfolding codeword flag
word_of bs q (Some x) e = rw e.0 e.1
word_of bs q None e = rw e

pub flag_of : (bs : List ℕ) (q : ℕ) (r : Option ℕ) (none : Bool) → is_some r ≡ not none → EightRead (eight bs q) r → one none ≡ flag bs q
unfolding flag
flag_of bs q (Some x) false h e = rw e.0
flag_of bs q (Some x) true h e = absurd (cc)
flag_of bs q None true h e = rw e
flag_of bs q None false h e = absurd (cc)

-- ---- rows and columns

pub row_of : (s i j : ℕ) → j < s → (i * s + j) / s ≡ i
row_of s i j h = mul-add-div_right {m = s} (omega arith) i j ∙ rw (div-eq_of_lt h) (add-zero i)

pub column_of : (s i j : ℕ) → j < s → (i * s + j) % s ≡ j
column_of s i j h = mul-add-mod_self_right i s j ∙ mod-eq_of_lt h

pub inside : (s i j : ℕ) → i < s → j < s → i * s + j < s * s
inside s i j hi hj =
    let m : suc i * s ≤ s * s = mul-le-mul_right s hi in
    omega (arith, m)

pub side_most : (v : ℕ) → v ≤ last_version → side v * side v ≤ most_modules
side_most v h = leb→le _ _ (at 11 (λ v. leb (side v * side v) most_modules) tt v (omega arith))

-- step r of column pair q
pub walk_step : (s q r : ℕ) → r < 2 * s
    → walk s (q * (2 * s) + r) ≡ cond (eqb (q % 2) 0) (s - 1 - r / 2) (r / 2) * s + (pair_column s q - r % 2)
unfolding walk
walk_step s q r h = rw (row_of (2 * s) q r h, column_of (2 * s) q r h)

-- in row t of a pair, its right column or, for j = 1, the one to the left
pub walk_row : (s q t j row right column : ℕ) → t < s → j < 2 → row ≡ cond (eqb (q % 2) 0) (s - 1 - t) t → right ≡ pair_column s q → column ≡ right - j
    → row * s + column ≡ walk s (q * (2 * s) + (2 * t + j))
walk_row s q t j row right column ht hj e f g =
    let half : (2 * t + j) / 2 ≡ t = omega arith in
    let low : (2 * t + j) % 2 ≡ j = omega arith in
    rw (walk_step s q (2 * t + j) (omega arith), half, low, g, f, e)

-- ---- the data modules met so far

keep_one : {A : Type 0} (test : A → Bool) (xs : List A) (x : A) → keep test (xs ++ (x ∷ [])) ≡ cond (test x) (keep test xs ++ (x ∷ [])) (keep test xs)
unfolding keep
keep_one {A = A} test [] x = refl
keep_one {A = A} test (y ∷ xs) x = rw (keep_one test xs x) (pick (test y) (test x) y (keep test xs) x)
  where
    pick : (a b : Bool) (y : A) (ys : List A) (x : A)
        → cond a (y ∷ cond b (ys ++ (x ∷ [])) ys) (cond b (ys ++ (x ∷ [])) ys) ≡ cond b (cond a (y ∷ ys) ys ++ (x ∷ [])) (cond a (y ∷ ys) ys)
    pick true true y ys x = refl
    pick true false y ys x = refl
    pick false true y ys x = refl
    pick false false y ys x = refl

-- what step k adds: a data module's number
abbrev pub plain_at : (v : ℕ) (rows m : List ℕ) (p : ℕ) → ℕ
plain_at v rows m p = plain (get_or m p 0) (get_or rows (p / side v) 0) (p % side v)

map_cond : {A B : Type 0} (f : A → B) (b : Bool) (xs ys : List A) → map f (cond b xs ys) ≡ cond b (map f xs) (map f ys)
map_cond f true xs ys = refl
map_cond f false xs ys = refl

pub passed_more : (v : ℕ) (rows m : List ℕ) (k : ℕ)
    → passed v rows m (suc k)
    ≡ cond (is_data v (walk (side v) k)) (passed v rows m k ++ (plain_at v rows m (walk (side v) k) ∷ [])) (passed v rows m k)
unfolding passed
passed_more v rows m k =
    rw (
      map_up_to_suc (walk (side v)) k,
      keep_one (is_data v) (map (walk (side v)) (up_to k)) (walk (side v) k),
      map_cond (plain_at v rows m) (is_data v (walk (side v) k)) (keep (is_data v) (map (walk (side v)) (up_to k)) ++ (walk (side v) k ∷ [])) (keep (is_data v) (map (walk (side v)) (up_to k))),
      map_append (plain_at v rows m) (keep (is_data v) (map (walk (side v)) (up_to k))) (walk (side v) k ∷ []),
    )

-- a module at row i and column j
pub plain_place : (v : ℕ) (rows m : List ℕ) (i j p : ℕ) → j < side v → i * side v + j ≡ p → plain (get_or m p 0) (get_or rows i 0) j ≡ plain_at v rows m p
plain_place v rows m i j p h e = rw (← e, row_of (side v) i j h, column_of (side v) i j h)

pub walked_in : (v : ℕ) (rows m : List ℕ) (k n x : ℕ) (out : List ℕ) → Walked v rows m k n out → is_data v (walk (side v) k) ≡ true
    → x ≡ plain_at v rows m (walk (side v) k) → n < length out → Walked v rows m (k + 1) (n + 1) (set out n x)
walked_in v rows m k n x out w d e h =
    record {
      few = omega (arith, w.few);
      front = rw (add-one k, passed_more v rows m k, d, add-one n, take-suc-set out n x h, w.front, e);
    }

pub walked_past : (v : ℕ) (rows m : List ℕ) (k n : ℕ) (out : List ℕ) → Walked v rows m k n out → is_data v (walk (side v) k) ≡ false
    → Walked v rows m (k + 1) n out
walked_past v rows m k n out w d = record { few = omega (arith, w.few); front = rw (add-one k, passed_more v rows m k, d) w.front }

-- the steps of a pair are inside the matrix
pub steps_inside : (s q r : ℕ) → 2 * q + 2 < s → r < 2 * s → q * (2 * s) + r < s * s
steps_inside s q r h l =
    let m : (2 * q + 2) * s ≤ s * s = mul-le-mul_right s (le_of_lt h) in
    let e : (2 * q + 2) * s ≡ q * (2 * s) + 2 * s = add-mul (2 * q) 2 s ∙ ap (λ (x : ℕ). x + 2 * s) (mul_assoc 2 q s ∙ mul_left_comm 2 q s) in
    omega (arith, m, e)
