-- A body has a group out of range exactly where its test fails: the test goes from group to group, and each but the last is full.
use mathlib.Core.Path.{◌≡◌, refl, sym, ap, ◌∙◌}
use mathlib.Core.Bool.{Bool, true, false, ◌&&◌}
use mathlib.Core.Logic.{⊎_elim}
use mathlib.Core.List.{List}
use Prim.Native.Nat.{ℕ, zero, suc, ◌+◌, ◌-◌, ◌*◌, ◌<◌, ◌≤◌}
use native.Mathlib.Nat.{not-suc-le-zero, zero-mul, suc-mul}
use native.Mathlib.Omega.{arith}
use lib.Dec.{leb}
use lib.ListN.{take, drop}
use lib.Seq.{drop-drop}
use borrow.Author.Tests.{le-leb, lt-leb, leb-false}
use Rattle.basics.specs.Bits.{number}
use Rattle.basics.specs.Lists.{AtMost}
use Rattle.cursor.proofs.Bits.{at_most_drop}
use Rattle.stream.specs.Stream.{known}
use Rattle.parse.specs.declared.Group.{Group}
use Rattle.parse.specs.Groups.{group_of}
use Rattle.parse.specs.Parse.{groups_in_range}
use Rattle.parse.specs.Faults.{full_group, group_at, GroupOver}
use Rattle.parse.proofs.Body.{by_mode}
use Rattle.parse.proofs.Along.{none_ranges}
use Rattle.parse.proofs.Groups.{next_group}
use Rattle.parse.proofs.Load.{none_or_some}

-- ---- a group before others is full

before_others : (mode left : ℕ) → known mode ≡ true → (group_of mode left).size < left → group_of mode left ≡ full_group mode
unfolding group_of
before_others mode left k h =
    by_mode mode k (λ e. rw e (digits left (rw e at h))) (λ e. rw e (pairs left (rw e at h))) (λ e. rw e)
  where
    digits : (left : ℕ) → (group_of 1 left).size < left → group_of 1 left ≡ group_of 1 3
    digits zero h = absurd (not-suc-le-zero h)
    digits (suc zero) h = absurd (omega arith)
    digits (suc (suc zero)) h = absurd (omega arith)
    digits (suc (suc (suc n))) h = rw (le-leb 3 (suc (suc (suc n))) (omega arith))

    pairs : (left : ℕ) → (group_of 2 left).size < left → group_of 2 left ≡ group_of 2 3
    pairs zero h = absurd (not-suc-le-zero h)
    pairs (suc zero) h = absurd (omega arith)
    pairs (suc (suc n)) h = rw (le-leb 2 (suc (suc n)) (omega arith))

full_before : (mode left : ℕ) → known mode ≡ true → (full_group mode).size < left → group_of mode left ≡ full_group mode
unfolding group_of
full_before mode left k h =
    by_mode mode k
    (λ e. let l : 3 < left = rw e at h in rw (e, le-leb 3 left (omega arith)))
    (λ e. let l : 2 < left = rw e at h in rw (e, le-leb 2 left (omega arith)))
    (λ e. rw e)

-- ---- from the test to the group

both_false : (a b : Bool) → (a && b) ≡ false → a ≡ true → b ≡ false
both_false a b h e = rw e at h

either_false : (a b : Bool) → b ≡ false → (a && b) ≡ false
either_false true b h = h
either_false false b h = refl

-- the first group
first_over : (mode left : ℕ) (bs : List ℕ) → 1 ≤ left → (group_of mode left).most < number (take (group_of mode left).width bs) → GroupOver mode left bs
first_over mode left bs h l =
    let e : left - 0 * (full_group mode).size ≡ left = rw zero-mul (omega arith) in
    record {
      group = 0;
      inside = rw zero-mul (omega arith);
      over = rw (e, zero-mul) l;
    }

module _ (mode left : ℕ) (bs : List ℕ) (g : group_of mode left ≡ full_group mode) where
  -- what is left behind k groups more
  left_later : (k : ℕ) → left - (group_of mode left).size - k * (full_group mode).size ≡ left - suc k * (full_group mode).size
  left_later k = rw (g, suc-mul) (omega arith)

  bits_later : (k : ℕ) → drop (k * (full_group mode).width) (drop (group_of mode left).width bs) ≡ drop (suc k * (full_group mode).width) bs
  bits_later k =
      let e : (full_group mode).width + k * (full_group mode).width ≡ suc k * (full_group mode).width = rw suc-mul (omega arith) in
      rw g (drop-drop (k * (full_group mode).width) (full_group mode).width bs) ∙ ap (λ (n : ℕ). drop n bs) e

-- a later one
later_over : (mode left : ℕ) (bs : List ℕ) → known mode ≡ true
    → GroupOver mode (left - (group_of mode left).size) (drop (group_of mode left).width bs) → GroupOver mode left bs
later_over mode left bs k r =
    let g : group_of mode left ≡ full_group mode = before_others mode left k (omega (arith, r.inside)) in
    record {
      group = suc r.group;
      inside = rw suc-mul (omega (arith, r.inside, ap (λ (x : Group). x.size) g));
      over = rw (left_later mode left bs g r.group, bits_later mode left bs g r.group) at r.over;
    }

module _ (mode left : ℕ) (bs : List ℕ) (k : known mode ≡ true) (b : AtMost 1 bs) (h : 1 ≤ left) where
  abbrev later : List ℕ
  later = drop (group_of mode left).width bs

  over_step : (groups_in_range mode (left - (group_of mode left).size) later ≡ false → GroupOver mode (left - (group_of mode left).size) later)
      → groups_in_range mode left bs ≡ false → GroupOver mode left bs
  over_step next r = go (leb (number (take (group_of mode left).width bs)) (group_of mode left).most) refl
    where
      go : (t : Bool) → leb (number (take (group_of mode left).width bs)) (group_of mode left).most ≡ t → GroupOver mode left bs
      go false e = first_over mode left bs h (leb-false _ _ e)
      go true e = later_over mode left bs k (next (both_false _ _ (sym (next_group mode left bs k b h).ranges ∙ r) e))

none_over : (mode left : ℕ) (bs : List ℕ) → left ≡ 0 → groups_in_range mode left bs ≡ false → ⊥
none_over mode left bs e r = let z : ◌≡◌ {A = ℕ} 0 1 = cc (none_ranges mode bs) in omega arith

pub over_of : (n mode left : ℕ) (bs : List ℕ) → known mode ≡ true → AtMost 1 bs → left ≤ n → groups_in_range mode left bs ≡ false → GroupOver mode left bs
over_of zero mode left bs k b h r = absurd (none_over mode left bs (omega arith) r)
over_of (suc n) mode left bs k b h r =
    ⊎_elim (λ e. absurd (none_over mode left bs e r))
    (λ l. over_step mode left bs k b l
    (over_of n mode (left - (group_of mode left).size) (drop (group_of mode left).width bs) k (at_most_drop 1 (group_of mode left).width bs b)
    (omega (arith, (next_group mode left bs k b l).least)))
    r)
    (none_or_some left)

-- ---- from the group to the test

ranges_of : (n mode left : ℕ) (bs : List ℕ) → known mode ≡ true → AtMost 1 bs → n * (full_group mode).size < left
    → (group_at mode left n).most < number (take (group_at mode left n).width (drop (n * (full_group mode).width) bs)) → groups_in_range mode left bs ≡ false
ranges_of zero mode left bs k b h l =
    let e : left - 0 * (full_group mode).size ≡ left = rw zero-mul (omega arith) in
    let m : (group_of mode left).most < number (take (group_of mode left).width bs) = rw (e, zero-mul) at l in
    (next_group mode left bs k b (omega (arith, zero-mul (full_group mode).size))).ranges ∙ rw (lt-leb _ _ m)
ranges_of (suc n) mode left bs k b h l =
    let s : suc n * (full_group mode).size ≡ n * (full_group mode).size + (full_group mode).size = suc-mul n (full_group mode).size in
    let g : group_of mode left ≡ full_group mode = full_before mode left k (omega arith) in
    let z : (group_of mode left).size ≡ (full_group mode).size = ap (λ (x : Group). x.size) g in
    (next_group mode left bs k b (omega arith)).ranges
    ∙ either_false (leb (number (take (group_of mode left).width bs)) (group_of mode left).most) _
    (ranges_of n mode (left - (group_of mode left).size) (drop (group_of mode left).width bs) k (at_most_drop 1 (group_of mode left).width bs b) (omega arith)
    (rw (left_later mode left bs g n, bits_later mode left bs g n) l))

pub over_ranges : (mode count : ℕ) (body : List ℕ) → known mode ≡ true → AtMost 1 body → GroupOver mode count body → groups_in_range mode count body ≡ false
over_ranges mode count body k b o = ranges_of o.group mode count body k b o.inside o.over
