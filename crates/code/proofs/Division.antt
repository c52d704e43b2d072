-- The division by the generator, one data codeword at a time: the data that follows, with the remainder so far added to its front, is what the
-- definition still has to divide. Lists are compared entry by entry, so that a remainder may carry zeros behind its n coefficients.
use mathlib.Core.Path.{◌≡◌, refl, sym, ap, ap₂, ◌∙◌}
use mathlib.Core.Logic.{by_cases}
use mathlib.Core.List.{List, [], ◌∷◌, ◌++◌, map, append_assoc, append-nil}
use Prim.Native.Nat.{ℕ, zero, suc, ◌+◌, ◌-◌, ◌≤◌, ◌<◌}
use native.Mathlib.Nat.{not-suc-le-zero}
use native.Mathlib.Decide.{dec_lt}
use native.Mathlib.Numerals.{add-one, one-add}
use native.Mathlib.Omega.{arith}
use lib.Bits.{bit_xor, xor_zero_r}
use lib.ListN.{length, take, drop, get_or, set, replicate, length-append, length-drop, length-replicate, get_or-eq_default, get_or-map}
use lib.Seq.{ext_get_or, get_or-drop, get_or-take, length-take-le, take-suc, take_all}
use Rattle.basics.specs.Build.{build}
use Rattle.basics.proofs.Build.{build_length, build_get}
use Rattle.basics.proofs.Xor.{xor_assoc}
use Rattle.field.specs.Field.{mul_n, pow_n}
use Rattle.field.proofs.Laws.{mul_zero}
use Rattle.code.specs.Code.{plus, generator, divided, lower, checks}
use Rattle.code.specs.Lanes.{padded, rooted, reduced}

-- ---- zeros behind a list

pub zeros_get : (n k : ℕ) → get_or {A = ℕ} (replicate n 0) k 0 ≡ 0
zeros_get zero k = refl
zeros_get (suc n) zero = refl
zeros_get (suc n) (suc k) = zeros_get n k

pub zeros_behind : (l : List ℕ) (m k : ℕ) → get_or (l ++ replicate m 0) k 0 ≡ get_or l k 0
zeros_behind [] m k = zeros_get m k
zeros_behind (x ∷ l) m zero = refl
zeros_behind (x ∷ l) m (suc k) = zeros_behind l m k

pub padded_get : (m : ℕ) (l : List ℕ) (k : ℕ) → get_or (padded m l) k 0 ≡ get_or l k 0
unfolding padded
padded_get m l k = zeros_behind l (m - length l) k

pub length_padded : (m : ℕ) (l : List ℕ) → length l ≤ m → length (padded m l) ≡ m
unfolding padded
length_padded m l h = simp (length-append, length-replicate) (omega arith)

-- ---- the sum of two lists

pub length_plus : (xs ys : List ℕ) → length (plus xs ys) ≡ length xs
unfolding plus
length_plus [] ys = refl
length_plus (x ∷ xs) [] = refl
length_plus (x ∷ xs) (y ∷ ys) = ap suc (length_plus xs ys)

pub plus_get : (xs ys : List ℕ) (k : ℕ) → k < length xs → get_or (plus xs ys) k 0 ≡ bit_xor (get_or xs k 0) (get_or ys k 0)
unfolding plus
plus_get [] ys k h = absurd (not-suc-le-zero h)
plus_get (x ∷ xs) [] k h = sym (xor_zero_r (get_or (x ∷ xs) k 0))
plus_get (x ∷ xs) (y ∷ ys) zero h = refl
plus_get (x ∷ xs) (y ∷ ys) (suc k) h = plus_get xs ys k (omega arith)

pub plus_zeros : (xs ys : List ℕ) → ((k : ℕ) → get_or ys k 0 ≡ 0) → plus xs ys ≡ xs
plus_zeros xs ys z =
    ext_get_or 0 (plus xs ys) xs (length_plus xs ys)
    (λ i h. plus_get xs ys i (rw length_plus at h) ∙ ap (bit_xor (get_or xs i 0)) (z i) ∙ xor_zero_r (get_or xs i 0))

pub plus_cons : (x : ℕ) (xs ys : List ℕ) → plus (x ∷ xs) ys ≡ bit_xor x (get_or ys 0 0) ∷ plus xs (drop 1 ys)
unfolding plus
plus_cons x xs [] = ap₂ (λ (a : ℕ) (l : List ℕ). a ∷ l) (sym (xor_zero_r x)) (sym (plus_zeros xs [] (λ k. refl)))
plus_cons x xs (y ∷ ys) = refl

pub plus_plus : (xs a b r : List ℕ) → ((k : ℕ) → get_or r k 0 ≡ bit_xor (get_or a k 0) (get_or b k 0)) → plus (plus xs a) b ≡ plus xs r
plus_plus xs a b r e =
    ext_get_or 0 (plus (plus xs a) b) (plus xs r) (length_plus (plus xs a) b ∙ length_plus xs a ∙ sym (length_plus xs r))
    (λ i h.
    let h₁ : i < length (plus xs a) = rw length_plus at h in
    let h₂ : i < length xs = rw length_plus at h₁ in
    plus_get (plus xs a) b i h₁ ∙ ap (λ (x : ℕ). bit_xor x (get_or b i 0)) (plus_get xs a i h₂) ∙ xor_assoc (get_or xs i 0) (get_or a i 0) (get_or b i 0)
    ∙ ap (bit_xor (get_or xs i 0)) (sym (e i)) ∙ sym (plus_get xs r i h₂))

pub plus_take : (n : ℕ) (r : List ℕ) → n ≤ length r → plus (replicate n 0) r ≡ take n r
plus_take n r l =
    ext_get_or 0 (plus (replicate n 0) r) (take n r) (length_plus (replicate n 0) r ∙ length-replicate n 0 ∙ sym (length-take-le n r l))
    (λ i h.
    let h₁ : i < length (replicate n 0) = rw length_plus at h in
    let h₂ : i < n = rw length-replicate at h₁ in
    plus_get (replicate n 0) r i h₁ ∙ ap (λ (x : ℕ). bit_xor x (get_or r i 0)) (zeros_get n i) ∙ sym (get_or-take n r i 0 h₂))

-- ---- the generator

pub length_generator : (n : ℕ) → length (generator n) ≡ suc n
unfolding generator
length_generator zero = refl
length_generator (suc n) = length_plus (generator n ++ (0 ∷ [])) (0 ∷ map (mul_n (pow_n n)) (generator n)) ∙ length-append (generator n) (0 ∷ []) ∙ add-one (length (generator n)) ∙ ap suc (length_generator n)

pub scaled_get : (c : ℕ) (l : List ℕ) (k : ℕ) → get_or (map (mul_n c) l) k 0 ≡ mul_n c (get_or l k 0)
scaled_get c l k = ap (get_or (map (mul_n c) l) k) (sym (mul_zero c)) ∙ get_or-map (mul_n c) l k 0

-- one more root, entry by entry, of any polynomial g
rooted_get : (g : List ℕ) (a k : ℕ) → 0 < length g → get_or (plus (g ++ (0 ∷ [])) (0 ∷ map (mul_n a) g)) k 0 ≡ rooted g a k
unfolding rooted
rooted_get g a zero h =
    plus_get (g ++ (0 ∷ [])) (0 ∷ map (mul_n a) g) 0 (rw length-append (omega arith)) ∙ xor_zero_r (get_or (g ++ (0 ∷ [])) 0 0) ∙ zeros_behind g 1 0
rooted_get g a (suc k) h =
    by_cases (dec_lt (suc k) (length (g ++ (0 ∷ []))))
    (λ l. plus_get (g ++ (0 ∷ [])) (0 ∷ map (mul_n a) g) (suc k) l ∙ ap₂ bit_xor (zeros_behind g 1 (suc k)) (scaled_get a g k))
    (λ l.
    let past : length g ≤ k = omega (arith, length-append g (0 ∷ [])) in
    get_or-eq_default (plus (g ++ (0 ∷ [])) (0 ∷ map (mul_n a) g)) 0 (rw length_plus (omega arith))
    ∙ sym (ap₂ bit_xor (get_or-eq_default g 0 (omega arith)) (ap (mul_n a) (get_or-eq_default g 0 past) ∙ mul_zero a)))

pub generator_get : (n k : ℕ) → get_or (generator (suc n)) k 0 ≡ rooted (generator n) (pow_n n) k
unfolding generator
generator_get n k = rooted_get (generator n) (pow_n n) k (rw (length_generator n) (omega arith))

rooted_padded : (m : ℕ) (g : List ℕ) (a k : ℕ) → rooted (padded m g) a k ≡ rooted g a k
unfolding rooted
rooted_padded m g a zero = padded_get m g 0
rooted_padded m g a (suc k) = ap₂ bit_xor (padded_get m g (suc k)) (ap (mul_n a) (padded_get m g k))

pub generator_none : set (replicate 33 0) 0 1 ≡ padded 33 (generator 0)
unfolding padded generator
generator_none = refl

pub generator_more : (n a : ℕ) (g r : List ℕ) → n < 32 → a ≡ pow_n n → g ≡ padded 33 (generator n) → r ≡ build (rooted g a) 33 → r ≡ padded 33 (generator (n + 1))
generator_more n a g r h p e q =
    q ∙ rw (add-one, e, p)
    (ext_get_or 0 (build (rooted (padded 33 (generator n)) (pow_n n)) 33) (padded 33 (generator (suc n)))
    (build_length (rooted (padded 33 (generator n)) (pow_n n)) 33 ∙ sym (length_padded 33 (generator (suc n)) (rw (length_generator (suc n)) (omega arith))))
    (λ i l.
    build_get (rooted (padded 33 (generator n)) (pow_n n)) 33 i (rw build_length at l)
    ∙ rooted_padded 33 (generator n) (pow_n n) i ∙ sym (generator_get n i) ∙ sym (padded_get 33 (generator (suc n)) i)))

-- ---- the remainder

lower_get : (l : List ℕ) (k : ℕ) → get_or (lower l) k 0 ≡ get_or l (suc k) 0
unfolding lower
lower_get [] k = refl
lower_get (x ∷ l) k = refl

reduced_get : (r g s : List ℕ) (d : ℕ) → length r ≡ 33 → length g ≡ 33 → s ≡ build (reduced r g d) 32 ++ replicate 1 0 → (k : ℕ) → get_or s k 0 ≡ reduced r g d k
unfolding reduced
reduced_get r g s d hr hg e k =
    rw e (zeros_behind (build (reduced r g d) 32) 1 k)
    ∙ by_cases (dec_lt k 32) (build_get (reduced r g d) 32 k)
    (λ l.
    get_or-eq_default (build (reduced r g d) 32) 0 (rw build_length (omega arith))
    ∙ sym (ap₂ bit_xor (get_or-eq_default r 0 (omega arith)) (ap (mul_n (bit_xor d (get_or r 0 0))) (get_or-eq_default g 0 (omega arith)) ∙ mul_zero (bit_xor d (get_or r 0 0)))))

divide_one : (low g r s xs : List ℕ) (d m : ℕ) → ((k : ℕ) → get_or low k 0 ≡ get_or g (suc k) 0) → ((k : ℕ) → get_or s k 0 ≡ reduced r g d k)
    → divided low (suc m) (plus (d ∷ xs) r) ≡ divided low m (plus xs s)
unfolding divided reduced
divide_one low g r s xs d m e q =
    ap (divided low (suc m)) (plus_cons d xs r)
    ∙ ap (divided low m)
    (plus_plus xs (drop 1 r) (map (mul_n (bit_xor d (get_or r 0 0))) low) s
    (λ k. q k ∙ ap₂ bit_xor (sym (get_or-drop 1 r k 0 ∙ ap (λ (j : ℕ). get_or r j 0) (one-add k))) (ap (mul_n (bit_xor d (get_or r 0 0))) (sym (e k)) ∙ sym (scaled_get (bit_xor d (get_or r 0 0)) low k))))

-- behind the n coefficients of the remainder there are zeros, also after one more step
abbrev pub ZerosFrom : (n : ℕ) (r : List ℕ) → Type 0
ZerosFrom n r = (k : ℕ) → n ≤ k → get_or r k 0 ≡ 0

pub zeros_one : (n : ℕ) (g r s : List ℕ) (d : ℕ) → n ≤ 30 → length r ≡ 33 → g ≡ padded 33 (generator n) → s ≡ build (reduced r g d) 32 ++ replicate 1 0
    → ZerosFrom n r → ZerosFrom n s
unfolding reduced
zeros_one n g r s d hn hr eg es z k h =
    let short : length (generator n) ≤ suc k = rw (length_generator n) (omega arith) in
    let past : get_or g (suc k) 0 ≡ 0 = ap (λ (l : List ℕ). get_or l (suc k) 0) eg ∙ padded_get 33 (generator n) (suc k) ∙ get_or-eq_default (generator n) 0 short in
    reduced_get r g s d hr (rw eg (length_padded 33 (generator n) (rw (length_generator n) (omega arith)))) es k
    ∙ ap₂ bit_xor (z (suc k) (omega arith)) (ap (mul_n (bit_xor d (get_or r 0 0))) past ∙ mul_zero (bit_xor d (get_or r 0 0)))

pub zeros_all : (n : ℕ) (r : List ℕ) → length r ≡ 33 → ZerosFrom n r → drop n r ≡ replicate (33 - n) 0
zeros_all n r h z =
    ext_get_or 0 (drop n r) (replicate (33 - n) 0) (rw (length-drop, length-replicate, h))
    (λ i l. get_or-drop n r i 0 ∙ z (n + i) (omega arith) ∙ sym (zeros_get (33 - n) i))

-- what holds of the remainder r after the data codewords `done`: whatever data follows, the division of all of it goes on from r
pub record Remains (n : ℕ) (done r : List ℕ) : Type 0 where
  pub long : length r ≡ 33
  pub zeros : ZerosFrom n r
  pub on : (rest : List ℕ) → divided (lower (generator n)) (length rest) (plus (rest ++ replicate n 0) r) ≡ checks n (done ++ rest)

pub remains_none : (n : ℕ) → Remains n [] (replicate 33 0)
unfolding checks
remains_none n =
    record {
      long = refl;
      zeros = λ k h. zeros_get 33 k;
      on = λ rest. ap (divided (lower (generator n)) (length rest)) (plus_zeros (rest ++ replicate n 0) (replicate 33 0) (zeros_get 33));
    }

pub remains_more : (n : ℕ) (held g r s : List ℕ) (i : ℕ) → n ≤ 30 → i < length held → g ≡ padded 33 (generator n)
    → s ≡ build (reduced r g (get_or held i 0)) 32 ++ replicate 1 0 → Remains n (take i held) r → Remains n (take (i + 1) held) s
remains_more n held g r s i hn h eg es before =
    let d = get_or held i 0 in
    let one : take i held ++ (d ∷ []) ≡ take (i + 1) held = rw (add-one, take-suc held i 0) in
    record {
      long = rw es (length-append (build (reduced r g d) 32) (replicate 1 0) ∙ rw build_length);
      zeros = zeros_one n g r s d hn before.long eg es before.zeros;
      on = λ rest.
          sym
          (divide_one (lower (generator n)) g r s (rest ++ replicate n 0) d (length rest)
          (λ k. lower_get (generator n) k ∙ sym (rw eg (padded_get 33 (generator n) (suc k))))
          (reduced_get r g s d before.long (rw eg (length_padded 33 (generator n) (rw (length_generator n) (omega arith)))) es))
          ∙ before.on (d ∷ rest)
          ∙ ap (checks n) (sym (append_assoc (take i held) (d ∷ []) rest) ∙ ap (λ (l : List ℕ). l ++ rest) one);
    }

pub remains_all : (n : ℕ) (held r : List ℕ) (i : ℕ) → n ≤ 33 → length held ≤ i → Remains n (take i held) r → take n r ≡ checks n held
unfolding divided
remains_all n held r i h e all =
    sym (plus_take n r (rw all.long h)) ∙ all.on [] ∙ ap (checks n) (append-nil (take i held) ∙ take_all i held e)
