-- How many characters and segments fit so many bits: "652 digits is the most that 10-L holds; 154 empty byte segments is the longest list (9-L)".
-- Three characters take 10 bits or more, and the segment that holds any has a head; a head is 12 bits or more (15 in version 10).
use mathlib.Core.Path.{◌≡◌, refl}
use mathlib.Core.Bool.{Bool, true, false, cond}
use mathlib.Core.Logic.{◌⊎◌, inl, inr, ⊎_elim}
use mathlib.Core.List.{List, [], ◌∷◌}
use Prim.Native.Nat.{ℕ, zero, suc, ◌+◌, ◌*◌, ◌/◌, ◌%◌, ◌<◌, ◌≤◌}
use native.Mathlib.Omega.{arith}
use lib.Dec.{leb}
use lib.ListN.{length, get_or}
use Rattle.tables.specs.Tables.{count_width, most_payload, most_list}
use Rattle.stream.specs.Stream.{known, body_width, segments_width, lawful_list, counts}
use Rattle.parse.proofs.Body.{by_mode, both_left, both_right}
use Rattle.parse.specs.Parse.{most_data}
use Rattle.parse.specs.Steps.{Load}

pub load_none : (t : Bool) → Load t 0 0 0
load_none true = record { some = inl refl; heads = omega arith }
load_none false = record { some = inl refl; heads = omega arith }

-- the versions' bits hold no more than the buffers
pub load_enough : (v bs chars segs : ℕ) → Load (leb v 9) bs chars segs → bs ≤ 8 * most_data v → (chars ≤ most_payload) × (segs ≤ 154)
load_enough v bs chars segs = enough (leb v 9)
  where
    enough : (t : Bool) → Load t bs chars segs → bs ≤ 8 * cond t 232 274 → (chars ≤ most_payload) × (segs ≤ 154)
    enough true l h = (⊎_elim (λ e. omega arith) (λ e. omega arith) l.some, omega (arith, l.heads))
    enough false l h = (⊎_elim (λ e. omega arith) (λ e. omega arith) l.some, omega (arith, l.heads))

-- ---- one segment more

-- w bits of a segment of so many characters
record Weight (t : Bool) (w count : ℕ) : Type 0 where
  head : cond t 12 15 ≤ w
  each : 10 * count ≤ 3 * w
  first : (count ≡ 0) ⊎ (10 * count + 3 * cond t 14 16 ≤ 3 * w)

heavier : (t : Bool) (bs chars segs w count : ℕ) → Load t bs chars segs → Weight t w count → Load t (bs + w) (chars + count) (segs + 1)
heavier t bs chars segs w count l g = record { some = ⊎_elim (λ e. ⊎_elim (λ f. inl (omega arith)) (λ f. inr (omega arith)) g.first) (λ e. inr (omega (arith, g.each))) l.some; heads = heads t l.heads g.head }
  where
    heads : (t : Bool) → cond t 12 15 * segs ≤ bs → cond t 12 15 ≤ w → cond t 12 15 * (segs + 1) ≤ bs + w
    heads true h k = omega arith
    heads false h k = omega arith

-- "two left in 7, one left in 4"
left_over : (r : ℕ) → r < 3 → 10 * r ≤ 3 * get_or (0 ∷ 4 ∷ 7 ∷ []) r 0
left_over zero h = omega arith
left_over (suc zero) h = omega arith
left_over (suc (suc zero)) h = omega arith
left_over (suc (suc (suc r))) h = absurd (omega arith)

pub none_or_some : (n : ℕ) → (n ≡ 0) ⊎ (1 ≤ n)
none_or_some zero = inl refl
none_or_some (suc n) = inr (omega arith)

digits_weight : (t : Bool) (count : ℕ) → Weight t (4 + cond t 10 12 + body_width 1 count) count
unfolding body_width
digits_weight t count = at t (left_over (count % 3) (omega arith))
  where
    at : (t : Bool) → 10 * (count % 3) ≤ 3 * get_or (0 ∷ 4 ∷ 7 ∷ []) (count % 3) 0 → Weight t (4 + cond t 10 12 + (count / 3 * 10 + get_or (0 ∷ 4 ∷ 7 ∷ []) (count % 3) 0)) count
    at true h = record { head = omega arith; each = omega arith; first = inr (omega arith) }
    at false h = record { head = omega arith; each = omega arith; first = inr (omega arith) }

pairs_weight : (t : Bool) (count : ℕ) → Weight t (4 + cond t 9 11 + body_width 2 count) count
unfolding body_width
pairs_weight true count = record { head = omega arith; each = omega arith; first = ⊎_elim inl (λ h. inr (omega arith)) (none_or_some count) }
pairs_weight false count = record { head = omega arith; each = omega arith; first = ⊎_elim inl (λ h. inr (omega arith)) (none_or_some count) }

bytes_weight : (t : Bool) (count : ℕ) → Weight t (4 + cond t 8 16 + body_width 4 count) count
unfolding body_width
bytes_weight true count = record { head = omega arith; each = omega arith; first = ⊎_elim inl (λ h. inr (omega arith)) (none_or_some count) }
bytes_weight false count = record { head = omega arith; each = omega arith; first = ⊎_elim inl (λ h. inr (omega arith)) (none_or_some count) }

weight : (v mode count : ℕ) → known mode ≡ true → Weight (leb v 9) (4 + count_width v mode + body_width mode count) count
unfolding count_width
weight v mode count k =
    by_mode mode k (λ e. rw e (digits_weight (leb v 9) count)) (λ e. rw e (pairs_weight (leb v 9) count)) (λ e. rw e (bytes_weight (leb v 9) count))

pub load_more : (v mode count bs chars segs : ℕ) → known mode ≡ true → Load (leb v 9) bs chars segs
    → Load (leb v 9) (bs + (4 + count_width v mode + body_width mode count)) (chars + count) (segs + 1)
load_more v mode count bs chars segs k l = heavier (leb v 9) bs chars segs (4 + count_width v mode + body_width mode count) count l (weight v mode count k)

-- ---- a list

-- its pairs
abbrev pub pairs_of : List ℕ → ℕ
pairs_of [] = 0
pairs_of (mode ∷ []) = 0
pairs_of (mode ∷ count ∷ list) = suc (pairs_of list)

pub length_pairs : (list : List ℕ) → lawful_list list ≡ true → length list ≡ 2 * pairs_of list
unfolding lawful_list
length_pairs [] m = refl
length_pairs (mode ∷ []) m = absurd (let z : ◌≡◌ {A = ℕ} 0 1 = cc in omega arith)
length_pairs (mode ∷ count ∷ list) m = omega (arith, length_pairs list (both_right (known mode) (lawful_list list) m))

pub list_load : (v : ℕ) (list : List ℕ) → lawful_list list ≡ true → Load (leb v 9) (segments_width v list) (counts list) (pairs_of list)
unfolding lawful_list segments_width counts
list_load v [] m = load_none (leb v 9)
list_load v (mode ∷ []) m = absurd (let z : ◌≡◌ {A = ℕ} 0 1 = cc in omega arith)
list_load v (mode ∷ count ∷ list) m =
    let l = load_more v mode count (segments_width v list) (counts list) (pairs_of list) (both_left (known mode) (lawful_list list) m) (list_load v list (both_right (known mode) (lawful_list list) m)) in
    let e : segments_width v list + (4 + count_width v mode + body_width mode count) ≡ 4 + count_width v mode + body_width mode count + segments_width v list = omega arith in
    let f : counts list + count ≡ count + counts list = omega arith in
    let g : pairs_of list + 1 ≡ suc (pairs_of list) = omega arith in
    rw (e, f, g) at l

pub list_enough : (v : ℕ) (list : List ℕ) → lawful_list list ≡ true → segments_width v list ≤ 8 * most_data v → (counts list ≤ most_payload) × (length list ≤ most_list)
list_enough v list m h =
    let e = load_enough v (segments_width v list) (counts list) (pairs_of list) (list_load v list m) h in
    (e.0, omega (arith, e.1, length_pairs list m))
