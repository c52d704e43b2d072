-- A body that was written is read back: its characters are the same, and every group is in range.
-- A group's number is below its power of two, so its bits are the number; a character in its mode has a code, and the code gives it back.
use mathlib.Core.Path.{◌≡◌, refl, ap, ap₂, ◌∙◌}
use mathlib.Core.Bool.{Bool, true, false, cond, ◌&&◌, ◌||◌}
use mathlib.Core.List.{List, [], ◌∷◌, ◌++◌, append_assoc}
use Prim.Native.Nat.{ℕ, suc, ◌+◌, ◌*◌, ◌/◌, ◌%◌, ◌^◌, ◌<◌, ◌≤◌}
use native.Mathlib.Nat.{le_of_suc-le-suc, not-suc-le-zero}
use native.Mathlib.Omega.{arith}
use lib.Dec.{leb, eqb}
use lib.ListN.{length, get_or, take, drop}
use lib.Seq.{take_at, drop_at}
use borrow.Author.Tests.{eqb-true, ltb-true, le-leb}
use Rattle.basics.specs.Bits.{bits, byte_bits, number, bytes}
use Rattle.basics.specs.Lists.{each, place_in, AtMost}
use Rattle.basics.proofs.Bits.{length_bits, number_bits}
use Rattle.stream.specs.Stream.{alphabet, code_of, character, known, in_mode, numeric_bits, alphanumeric_bits, body}
use Rattle.parse.specs.Parse.{digits, digits_in_range, pairs, pairs_in_range, characters, groups_in_range}

-- ---- tests

pub both_left : (a b : Bool) → (a && b) ≡ true → a ≡ true
both_left true b h = refl
both_left false b h = h

pub both_right : (a b : Bool) → (a && b) ≡ true → b ≡ true
both_right true b h = h
both_right false b h = absurd (let z : ◌≡◌ {A = ℕ} 0 1 = cc in omega arith)

pub both_true : (a b : Bool) → a ≡ true → b ≡ true → (a && b) ≡ true
both_true a b p q = rw (p, q)

-- a number that is shown to be x passes x's test
at_most : {n x : ℕ} (most : ℕ) → n ≡ x → x ≤ most → leb n most ≡ true
at_most {n} {x} most e h = le-leb n most (omega arith)

-- the three modes
pub by_mode : (mode : ℕ) → known mode ≡ true → {A : Type 0} → (mode ≡ 1 → A) → (mode ≡ 2 → A) → (mode ≡ 4 → A) → A
unfolding known
by_mode mode h f g k = pick (eqb mode 1) (eqb mode 2) (eqb mode 4) h (λ e. f (eqb-true mode 1 e)) (λ e. g (eqb-true mode 2 e)) (λ e. k (eqb-true mode 4 e))
  where
    pick : {A : Type 0} (a b c : Bool) → (a || b || c) ≡ true → (a ≡ true → A) → (b ≡ true → A) → (c ≡ true → A) → A
    pick true b c h f g k = f refl
    pick false true c h f g k = g refl
    pick false false c h f g k = k h

-- ---- a number at the front of bits

module _ (k x : ℕ) (rest : List ℕ) where
  pub number_front : x < 2 ^ k → number (take k (bits k x ++ rest)) ≡ x
  number_front h = ap number (take_at (bits k x) rest k (length_bits k x)) ∙ number_bits k x h

  pub drop_front : drop k (bits k x ++ rest) ≡ rest
  drop_front = drop_at (bits k x) rest k (length_bits k x)

-- ---- characters and codes

found : (t : Bool) (x c p : ℕ) (xs : List ℕ) → (t ≡ true → x ≡ c) → (p < length xs → get_or xs p 0 ≡ c)
    → cond t 0 (suc p) < suc (length xs) → get_or (x ∷ xs) (cond t 0 (suc p)) 0 ≡ c
found true x c p xs here later h = here refl
found false x c p xs here later h = later (le_of_suc-le-suc h)

pub at_place : (xs : List ℕ) (c : ℕ) → place_in xs c < length xs → get_or xs (place_in xs c) 0 ≡ c
unfolding place_in
at_place [] c h = absurd (not-suc-le-zero h)
at_place (x ∷ xs) c h = found (eqb x c) x c (place_in xs c) xs (eqb-true x c) (at_place xs c) h

pub character_code : (c : ℕ) → code_of c < 45 → character (code_of c) ≡ c
unfolding code_of character alphabet
character_code c h = at_place alphabet c h

module _ (c : ℕ) where
  pub digit_code : in_mode 1 c ≡ true → code_of c < 10
  unfolding in_mode
  digit_code h = ltb-true (code_of c) 10 h

  pub pair_code : in_mode 2 c ≡ true → code_of c < 45
  unfolding in_mode
  pair_code h = ltb-true (code_of c) 45 h

module _ (test : ℕ → Bool) (c : ℕ) (cs : List ℕ) (h : each test (c ∷ cs) ≡ true) where
  pub each_first : test c ≡ true
  unfolding each
  each_first = both_left (test c) (each test cs) h

  pub each_rest : each test cs ≡ true
  unfolding each
  each_rest = both_right (test c) (each test cs) h

-- ---- numeric

-- a lone last digit stands in four bits and reads back as itself
pub lone_digit : (a : ℕ) (rest : List ℕ) → in_mode 1 a ≡ true → digits 1 (numeric_bits (a ∷ []) ++ rest) ≡ a ∷ []
unfolding digits numeric_bits
lone_digit a rest h =
    let s : code_of a < 10 = digit_code a h in
    ap (λ (x : ℕ). character x ∷ []) (number_front 4 (code_of a) rest (omega arith)) ∙ ap (λ (x : ℕ). x ∷ []) (character_code a (omega arith))

pub digits_written : (cs rest : List ℕ) → each (in_mode 1) cs ≡ true
    → (digits (length cs) (numeric_bits cs ++ rest) ≡ cs) × (digits_in_range (length cs) (numeric_bits cs ++ rest) ≡ true)
unfolding digits digits_in_range numeric_bits
digits_written [] rest h = (refl, refl)
digits_written (a ∷ []) rest h =
    let s : code_of a < 10 = digit_code a (each_first (in_mode 1) a [] h) in
    (lone_digit a rest (each_first (in_mode 1) a [] h), at_most 9 (number_front 4 (code_of a) rest (omega arith)) (omega arith))
digits_written (a ∷ b ∷ []) rest h =
    let ha : code_of a < 10 = digit_code a (each_first (in_mode 1) a (b ∷ []) h) in
    let hb : code_of b < 10 = digit_code b (each_first (in_mode 1) b [] (each_rest (in_mode 1) a (b ∷ []) h)) in
    let x : ℕ = 10 * code_of a + code_of b in
    let n : number (take 7 (bits 7 x ++ rest)) ≡ x = number_front 7 x rest (omega arith) in
    let p : number (take 7 (bits 7 x ++ rest)) / 10 ≡ code_of a = omega arith in
    let q : number (take 7 (bits 7 x ++ rest)) % 10 ≡ code_of b = omega arith in (
      ap₂ (λ (i j : ℕ). character i ∷ character j ∷ []) p q
          ∙ ap₂ (λ (i j : ℕ). i ∷ j ∷ []) (character_code a (omega arith)) (character_code b (omega arith)),
      at_most 99 n (omega arith),
    )
digits_written (a ∷ b ∷ c ∷ cs) rest h =
    let h₁ : each (in_mode 1) (b ∷ c ∷ cs) ≡ true = each_rest (in_mode 1) a (b ∷ c ∷ cs) h in
    let h₂ : each (in_mode 1) (c ∷ cs) ≡ true = each_rest (in_mode 1) b (c ∷ cs) h₁ in
    let ha : code_of a < 10 = digit_code a (each_first (in_mode 1) a (b ∷ c ∷ cs) h) in
    let hb : code_of b < 10 = digit_code b (each_first (in_mode 1) b (c ∷ cs) h₁) in
    let hc : code_of c < 10 = digit_code c (each_first (in_mode 1) c cs h₂) in
    let x : ℕ = 100 * code_of a + 10 * code_of b + code_of c in
    let tail : List ℕ = numeric_bits cs ++ rest in
    let n : number (take 10 (bits 10 x ++ tail)) ≡ x = number_front 10 x tail (omega arith) in
    let p : number (take 10 (bits 10 x ++ tail)) / 100 ≡ code_of a = omega arith in
    let q : number (take 10 (bits 10 x ++ tail)) / 10 % 10 ≡ code_of b = omega arith in
    let r : number (take 10 (bits 10 x ++ tail)) % 10 ≡ code_of c = omega arith in
    let l : leb (number (take 10 (bits 10 x ++ tail))) 999 ≡ true = at_most 999 n (omega arith) in
    let later = digits_written cs rest (each_rest (in_mode 1) c cs h₂) in (
      rw (append_assoc (bits 10 x) (numeric_bits cs) rest, p, q, r, drop_front 10 x tail)
          (rw (character_code a (omega arith), character_code b (omega arith), character_code c (omega arith))
          (ap (λ (l : List ℕ). a ∷ b ∷ c ∷ l) later.0)),
      rw (append_assoc (bits 10 x) (numeric_bits cs) rest, l, drop_front 10 x tail) later.1,
    )

-- ---- alphanumeric

pub pairs_written : (cs rest : List ℕ) → each (in_mode 2) cs ≡ true
    → (pairs (length cs) (alphanumeric_bits cs ++ rest) ≡ cs) × (pairs_in_range (length cs) (alphanumeric_bits cs ++ rest) ≡ true)
unfolding pairs pairs_in_range alphanumeric_bits
pairs_written [] rest h = (refl, refl)
pairs_written (a ∷ []) rest h =
    let s : code_of a < 45 = pair_code a (each_first (in_mode 2) a [] h) in
    let n : number (take 6 (bits 6 (code_of a) ++ rest)) ≡ code_of a = number_front 6 (code_of a) rest (omega arith) in
    (ap (λ (x : ℕ). character x ∷ []) n ∙ ap (λ (x : ℕ). x ∷ []) (character_code a s), at_most 44 n (omega arith))
pairs_written (a ∷ b ∷ cs) rest h =
    let h₁ : each (in_mode 2) (b ∷ cs) ≡ true = each_rest (in_mode 2) a (b ∷ cs) h in
    let ha : code_of a < 45 = pair_code a (each_first (in_mode 2) a (b ∷ cs) h) in
    let hb : code_of b < 45 = pair_code b (each_first (in_mode 2) b cs h₁) in
    let x : ℕ = 45 * code_of a + code_of b in
    let tail : List ℕ = alphanumeric_bits cs ++ rest in
    let n : number (take 11 (bits 11 x ++ tail)) ≡ x = number_front 11 x tail (omega arith) in
    let p : number (take 11 (bits 11 x ++ tail)) / 45 ≡ code_of a = omega arith in
    let q : number (take 11 (bits 11 x ++ tail)) % 45 ≡ code_of b = omega arith in
    let l : leb (number (take 11 (bits 11 x ++ tail))) 2024 ≡ true = at_most 2024 n (omega arith) in
    let later = pairs_written cs rest (each_rest (in_mode 2) b cs h₁) in (
      rw (append_assoc (bits 11 x) (alphanumeric_bits cs) rest, p, q, drop_front 11 x tail)
          (rw (character_code a (omega arith), character_code b (omega arith)) (ap (λ (l : List ℕ). a ∷ b ∷ l) later.0)),
      rw (append_assoc (bits 11 x) (alphanumeric_bits cs) rest, l, drop_front 11 x tail) later.1,
    )

-- ---- bytes

pub bytes_written : (cs rest : List ℕ) → AtMost 255 cs → bytes (length cs) (byte_bits cs ++ rest) ≡ cs
unfolding bytes byte_bits
bytes_written [] rest h = refl
bytes_written (c ∷ cs) rest h =
    rw (append_assoc (bits 8 c) (byte_bits cs) rest)
    (ap₂ ◌∷◌ (number_front 8 c (byte_bits cs ++ rest) (omega (arith, h 0 (omega arith))))
    (ap (bytes (length cs)) (drop_front 8 c (byte_bits cs ++ rest)) ∙ bytes_written cs rest (λ i l. h (suc i) (omega arith))))

-- ---- any mode

module _ (mode : ℕ) (cs rest : List ℕ) (m : each (in_mode mode) cs ≡ true) (b : AtMost 255 cs) where
  abbrev Written : Type 0
  Written = (characters mode (length cs) (body mode cs ++ rest) ≡ cs) × (groups_in_range mode (length cs) (body mode cs ++ rest) ≡ true)

  pub body_written : known mode ≡ true → Written
  unfolding characters groups_in_range body
  body_written k =
      by_mode mode k
      (λ e. rw e (digits_written cs rest (rw e at m)))
      (λ e. rw e (pairs_written cs rest (rw e at m)))
      (λ e. rw e (bytes_written cs rest b, refl))
