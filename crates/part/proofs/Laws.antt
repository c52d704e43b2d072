-- The segments' starts never fall, a span ends within the payload, and the parts of a whole list join to the payload. A lawful list fills as
-- many bytes as its counts sum to.
use mathlib.Core.Path.{◌≡◌, refl, sym, ap, ap₂, ◌∙◌}
use mathlib.Core.Bool.{Bool, true, false, cond, ◌&&◌}
use mathlib.Core.List.{List, [], ◌∷◌, ◌++◌, map}
use Prim.Native.Nat.{ℕ, zero, suc, ◌+◌, ◌*◌, ◌/◌, ◌%◌, ◌≤◌, ◌<◌}
use mathlib.Core.Logic.{⊎_elim}
use native.Mathlib.Nat.{le_refl, le_trans, le_of_suc-le-suc, eq-or-lt_of_le}
use native.Mathlib.Omega.{arith}
use lib.Dec.{eqb, ltb, leb}
use lib.ListN.{length, get_or, take, drop}
use lib.Seq.{take-add, take_all}
use borrow.Author.Tests.{leb-true, eq-eqb, lt-ltb, lt-leb, le-leb}
use Rattle.basics.specs.Lists.{from, up_to, joined}
use Rattle.basics.proofs.Lists.{map_up_to_suc, joined_append, joined_one}
use Rattle.stream.specs.Stream.{known, lawful_list, counts}
use Rattle.part.specs.Part.{start_of, span_of, part_of, nowhere, Fills}
use Rattle.part.specs.Theorems.{PartInside, PartsJoin}
use Rattle.std.proofs.lemmas.List.{get_or-drop}
use Rattle.std.specs.Simd.{first_chunks}
use Rattle.part.specs.declared.Span.{Span}

pub start_mono : (list : List ℕ) (j k : ℕ) → j ≤ k → start_of list j ≤ start_of list k
start_mono list j zero h = rw (the_zero j h) (le_refl 0)
  where
    the_zero : (j : ℕ) → j ≤ 0 → j ≡ 0
    the_zero j h = omega arith
start_mono list j (suc k) h =
    ⊎_elim (λ e. rw e (le_refl _)) (λ l. omega (arith, start_mono list j k (le_of_suc-le-suc l))) (eq-or-lt_of_le h)

-- a choice between a span that is within n bytes and the empty one at the start
fit : (t : Bool) (s : Span) (n : ℕ) → (t ≡ true → s.start + s.len ≤ n) → (cond t s nowhere).start + (cond t s nowhere).len ≤ n
fit true s n h = h refl
fit false s n h = omega arith

last : (a b c : Bool) → (a && b && c) ≡ true → c ≡ true
last true true c e = e
last true false c e = cc
last false b c e = cc

pub within : PartInside
unfolding span_of
within list n k =
    fit (eqb (length list % 2) 0 && ltb k (length list / 2) && leb (start_of list (suc k)) n) (record { start = start_of list k; len = get_or list (2 * k + 1) 0 }) n
    (λ e. leb-true (start_of list (suc k)) n (last (eqb (length list % 2) 0) (ltb k (length list / 2)) (leb (start_of list (suc k)) n) e))

-- the count of a segment: the second number of its pair
pub count_at : (list : List ℕ) (m j : ℕ) → j < m → get_or (get_or (first_chunks 2 m list) j []) 1 0 ≡ get_or list (2 * j + 1) 0
count_at list zero j h = absurd (omega arith)
count_at [] (suc m) zero h = refl
count_at (mode ∷ []) (suc m) zero h = refl
count_at (mode ∷ count ∷ list) (suc m) zero h = refl
count_at list (suc m) (suc j) h =
    let e : 2 * suc j + 1 ≡ 2 + (2 * j + 1) = omega arith in
    count_at (drop 2 list) m j (omega arith) ∙ get_or-drop 2 list (2 * j + 1) 0 ∙ ap (λ (i : ℕ). get_or list i 0) (sym e)

-- the answer for a segment that would run past the payload
pub span_past : (list : List ℕ) (n k : ℕ) → n < start_of list (suc k) → span_of list n k ≡ nowhere
unfolding span_of
span_past list n k h = rw (lt-leb _ _ h) (neither (eqb (length list % 2) 0) (ltb k (length list / 2)) _)
  where
    neither : (a b : Bool) (s : Span) → cond (a && b && false) s nowhere ≡ nowhere
    neither true true s = refl
    neither true false s = refl
    neither false b s = refl

-- and for one that the list has, and that ends within the payload
module _ (list : List ℕ) (n k : ℕ) (even : length list % 2 ≡ 0) (has : k < length list / 2) where
  pub span_here : start_of list (suc k) ≤ n → span_of list n k ≡ record { start = start_of list k; len = get_or list (2 * k + 1) 0 }
  unfolding span_of
  span_here h = rw (eq-eqb _ _ even, lt-ltb _ _ has, le-leb _ _ h)

-- the first parts of a list whose counts sum to no more than the payload's length are its front
module _ (payload list : List ℕ) (even : length list % 2 ≡ 0) (fits : start_of list (length list / 2) ≤ length payload) where
  pub part_here : (k : ℕ) → k < length list / 2 → part_of payload list k ≡ take (get_or list (2 * k + 1) 0) (drop (start_of list k) payload)
  unfolding part_of
  part_here k h = rw (span_here list (length payload) k even h (le_trans (start_mono list (suc k) (length list / 2) h) fits))

  parts_front : (n : ℕ) → n ≤ length list / 2 → joined (map (part_of payload list) (up_to n)) ≡ take (start_of list n) payload
  unfolding up_to from joined
  parts_front zero h = refl
  parts_front (suc n) h =
      ap joined (map_up_to_suc (part_of payload list) n)
      ∙ joined_append (map (part_of payload list) (up_to n)) _
      ∙ ap₂ ◌++◌ (parts_front n (omega arith)) (joined_one (part_of payload list n) ∙ part_here n h)
      ∙ sym (take-add (start_of list n) (get_or list (2 * n + 1) 0) payload)

pub parts_join : PartsJoin
parts_join payload list even e =
    parts_front payload list even (rw e (le_refl (length payload))) (length list / 2) (le_refl _) ∙ rw e (take_all (length payload) payload (le_refl _))

-- ---- lawful lists

-- a segment in front moves every start behind it by its count
start_behind : (mode count : ℕ) (list : List ℕ) (k : ℕ) → start_of (mode ∷ count ∷ list) (suc k) ≡ count + start_of list k
start_behind mode count list zero = omega arith
start_behind mode count list (suc k) =
    let e : 2 * suc k + 1 ≡ suc (suc (2 * k + 1)) = omega arith in
    let same : get_or (mode ∷ count ∷ list) (2 * suc k + 1) 0 ≡ get_or list (2 * k + 1) 0 = rw e in
    omega (arith, start_behind mode count list k)

pub lawful_fills : (list : List ℕ) → lawful_list list ≡ true → Fills list (counts list)
unfolding lawful_list counts
lawful_fills [] h = record { whole = refl; sums = refl }
lawful_fills (mode ∷ []) h = absurd (let z : ◌≡◌ {A = ℕ} 0 1 = cc in omega arith)
lawful_fills (mode ∷ count ∷ list) h =
    let f = lawful_fills list (both_right (known mode) (lawful_list list) h) in
    let e : suc (suc (length list)) / 2 ≡ suc (length list / 2) = omega arith in
    record {
      whole = omega (arith, f.whole);
      sums = rw e (start_behind mode count list (length list / 2) ∙ ap (λ (n : ℕ). count + n) f.sums);
    }
  where
    both_right : (a b : Bool) → (a && b) ≡ true → b ≡ true
    both_right true b e = e
    both_right false b e = cc
