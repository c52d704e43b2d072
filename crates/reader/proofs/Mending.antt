-- A loop that corrects the blocks one after the other in one buffer: those passed hold the codewords that they stand for, those ahead are as
-- they were. A block's part is lent, and comes back with what the corrector left; no other block's part is touched.
use mathlib.Core.Path.{◌≡◌, refl, sym, ap, ap₂, subst, subst₂, ◌∙◌}
use mathlib.Core.Logic.{⊎_elim}
use mathlib.Core.List.{List, ◌++◌}
use Prim.Native.Nat.{ℕ, suc, ◌+◌, ◌-◌, ◌*◌, ◌≤◌, ◌<◌}
use native.Mathlib.Nat.{eq-or-lt_of_le, le_of_suc-le-suc, add-sub_cancel_left}
use native.Mathlib.Numerals.{add-one}
use native.Mathlib.Omega.{arith}
use borrow.Rule.Slice.PartMut.{put_mid}
use lib.ListN.{length, take, drop, length-append, length-drop, take-append-drop}
use lib.Seq.{take_at, drop_at, drop-drop, length-take-le, take-append-le, drop-append-le, drop-append-add}
use Rattle.basics.specs.Sums.{sum}
use Rattle.basics.proofs.Sums.{sum_same, sum_mono}
use Rattle.tables.specs.Tables.{Lawful, total, room, block_count, check_count, block_length}
use Rattle.tables.proofs.Rules.{room_most, checks_most, blocks_most}
use Rattle.corrector.specs.declared.Counts.{Counts}
use Rattle.code.specs.Code.{Stands, differing}
use Rattle.blocks.specs.Blocks.{block_of, block_offset}
use Rattle.blocks.proofs.Dealing.{offset_next, offset_end}
use Rattle.reader.specs.Steps.{Standing, wrong_in, lost_in, AllMended}

-- ---- parts of a list one of whose parts was lent

module _ (xs ys : List ℕ) (c n : ℕ) (inside : c + n ≤ length xs) (long : length ys ≡ n) where
  front : length (take c xs) ≡ c
  front = length-take-le c xs (omega arith)

  pub lent_here : take n (drop c (put_mid c n xs ys)) ≡ ys
  lent_here = ap (take n) (drop_at (take c xs) (ys ++ drop n (drop c xs)) c front) ∙ take_at ys (drop n (drop c xs)) n long

  pub lent_before : (o l : ℕ) → o + l ≤ c → take l (drop o (put_mid c n xs ys)) ≡ take l (drop o xs)
  lent_before o l h =
      early (ys ++ drop n (drop c xs)) ∙ sym (early (drop c xs)) ∙ ap (λ (zs : List ℕ). take l (drop o zs)) (take-append-drop c xs)
    where
      early : (zs : List ℕ) → take l (drop o (take c xs ++ zs)) ≡ take l (drop o (take c xs))
      early zs =
          ap (take l) (drop-append-le o (take c xs) zs (rw front (omega arith)))
          ∙ take-append-le l (drop o (take c xs)) zs (rw (length-drop o (take c xs), front) (omega arith))

  pub lent_after : (o l : ℕ) → c + n ≤ o → take l (drop o (put_mid c n xs ys)) ≡ take l (drop o xs)
  lent_after o l h =
      let d : ℕ = o - (c + n) in
      let e : c + (n + d) ≡ o = omega arith in
      let f : c + n + d ≡ o = omega arith in
      let g : length ys + d ≡ n + d = ap (λ (k : ℕ). k + d) long in
      ap (take l)
      (ap (λ (k : ℕ). drop k (put_mid c n xs ys)) (sym e)
      ∙ sym (drop-drop (n + d) c (put_mid c n xs ys))
      ∙ ap (drop (n + d)) (drop_at (take c xs) (ys ++ drop n (drop c xs)) c front)
      ∙ ap (λ (k : ℕ). drop k (ys ++ drop n (drop c xs))) (sym g)
      ∙ drop-append-add ys (drop n (drop c xs)) d
      ∙ ap (drop d) (drop-drop n c xs)
      ∙ drop-drop d (c + n) xs
      ∙ ap (λ (k : ℕ). drop k xs) f)

  pub lent_length : length (put_mid c n xs ys) ≡ length xs
  lent_length = simp (length-append, length-drop, front, long) (omega arith)

-- ---- the loop

pub record Mending (v level : ℕ) (w_0 f : List ℕ) (a b : ℕ) (w : List ℕ) (t e : ℕ) : Type 0 where
  pub few : b ≤ block_count v level
  pub start : a ≡ block_offset v level b
  pub long : length w ≡ length w_0
  pub stand : (k : ℕ) → k < b → Standing v level w_0 f k (block_of v level w k) (wrong_in v level w_0 f w k) (lost_in v level f k)
  pub rest : (k : ℕ) → b ≤ k → block_of v level w k ≡ block_of v level w_0 k
  pub differing_sum : t ≡ sum b (wrong_in v level w_0 f w)
  pub unreadable_sum : e ≡ sum b (lost_in v level f)
  pub differing_small : t ≤ 30 * b
  pub unreadable_small : e ≤ 30 * b

pub mending_none : (v level : ℕ) (w f : List ℕ) → Mending v level w f 0 0 w 0 0
unfolding block_offset sum
mending_none v level w f =
    record {
      few = omega arith;
      start = refl;
      long = refl;
      stand = λ k h. absurd (omega arith);
      rest = λ k h. refl;
      differing_sum = refl;
      unreadable_sum = refl;
      differing_small = omega arith;
      unreadable_small = omega arith;
    }

-- the loop has passed every block
pub mending_all : (v level : ℕ) (w_0 f : List ℕ) (a b : ℕ) (w : List ℕ) (t e : ℕ) → Mending v level w_0 f a b w t e → block_count v level ≤ b
    → AllMended v level w_0 f w (record { differing = t; unreadable = e })
mending_all v level w_0 f a b w t e m h =
    let all : b ≡ block_count v level = omega (arith, m.few) in
    record {
      long = m.long;
      stand = λ k l. m.stand k (omega arith);
      differing_sum = m.differing_sum ∙ ap (λ (n : ℕ). sum n (wrong_in v level w_0 f w)) all;
      unreadable_sum = m.unreadable_sum ∙ ap (λ (n : ℕ). sum n (lost_in v level f)) all;
    }

-- the part that starts at a block's offset is the block
part_of : (v level a b : ℕ) (xs : List ℕ) → a ≡ block_offset v level b → take (block_length v level b) (drop a xs) ≡ block_of v level xs b
unfolding block_of
part_of v level a b xs e = ap (λ (x : ℕ). take (block_length v level b) (drop x xs)) e

-- a block that starts later starts past the end of an earlier one
offset_later : (v level j k : ℕ) → j < k → block_offset v level j + block_length v level j ≤ block_offset v level k
unfolding block_offset sum
offset_later v level j k h = sum_mono (suc j) k (block_length v level) h

module _ (v level : ℕ) (lawful : Lawful v level) (w_0 f w ys : List ℕ) (a b t e td ed : ℕ) (m : Mending v level w_0 f a b w t e) (h : b < block_count v level)
    (whole : length w_0 ≡ total v)
    (s : Stands (check_count v level) (room v level) (take (block_length v level b) (drop a w)) (take (block_length v level b) (drop a f)) ys td ed)
  where
    inside : a + block_length v level b ≤ length w
    inside = omega (arith, m.start, m.long, whole, offset_end v level lawful b h)

    many : length ys ≡ block_length v level b
    many = s.long ∙ length-take-le (block_length v level b) (drop a w) (rw (length-drop a w) (omega (arith, inside)))

    earlier : (k : ℕ) → k < b → block_of v level (put_mid a (block_length v level b) w ys) k ≡ block_of v level w k
    unfolding block_of
    earlier k l =
        lent_before w ys a (block_length v level b) inside many (block_offset v level k) (block_length v level k) (omega (arith, m.start, offset_later v level k b l))

    later : (k : ℕ) → b < k → block_of v level (put_mid a (block_length v level b) w ys) k ≡ block_of v level w k
    unfolding block_of
    later k l =
        lent_after w ys a (block_length v level b) inside many (block_offset v level k) (block_length v level k) (omega (arith, m.start, offset_later v level b k l))

    here : block_of v level (put_mid a (block_length v level b) w ys) b ≡ ys
    unfolding block_of
    here =
        ap (λ (x : ℕ). take (block_length v level b) (drop x (put_mid a (block_length v level b) w ys))) (sym m.start)
        ∙ lent_here w ys a (block_length v level b) inside many

    -- what was lent was the block as it came
    lent : take (block_length v level b) (drop a w) ≡ block_of v level w_0 b
    lent = part_of v level a b w m.start ∙ m.rest b (omega arith)

    lent_flags : take (block_length v level b) (drop a f) ≡ block_of v level f b
    lent_flags = part_of v level a b f m.start

    stood : Standing v level w_0 f b ys td ed
    stood = subst₂ (λ (x y : List ℕ). Stands (check_count v level) (room v level) x y ys td ed) lent lent_flags s

    counted : Standing v level w_0 f b (block_of v level (put_mid a (block_length v level b) w ys) b) (wrong_in v level w_0 f (put_mid a (block_length v level b) w ys) b) (lost_in v level f b)
    counted =
        subst (λ (c : List ℕ). Standing v level w_0 f b c (differing (block_of v level w_0 b) (block_of v level f b) c) (lost_in v level f b)) (sym here)
        (subst₂ (λ (t e : ℕ). Standing v level w_0 f b ys t e) stood.differs stood.missing stood)

    small : (td ≤ 30) × (ed ≤ 30)
    small = (
      omega (arith, s.near, room_most v level, checks_most v level lawful),
      omega (arith, s.near, room_most v level, checks_most v level lawful),
    )

    pub mending_more : Mending v level w_0 f (a + block_length v level b) (b + 1) (put_mid a (block_length v level b) w ys) (t + td) (e + ed)
    unfolding sum
    mending_more =
        record {
          few = omega arith;
          start = rw (add-one b, offset_next v level b) (ap (λ (x : ℕ). x + block_length v level b) m.start);
          long = lent_length w ys a (block_length v level b) inside many ∙ m.long;
          stand = λ k l.
              ⊎_elim
              (λ (p : k ≡ b). subst (λ (k : ℕ). Standing v level w_0 f k (block_of v level (put_mid a (block_length v level b) w ys) k) (wrong_in v level w_0 f (put_mid a (block_length v level b) w ys) k) (lost_in v level f k)) (sym p) counted)
              (λ p. subst (λ (c : List ℕ). Standing v level w_0 f k c (differing (block_of v level w_0 k) (block_of v level f k) c) (lost_in v level f k)) (sym (earlier k p)) (m.stand k p))
              (eq-or-lt_of_le (le_of_suc-le-suc (rw add-one at l)));
          rest = λ k l. later k (omega arith) ∙ m.rest k (omega arith);
          differing_sum = rw (add-one b)
              (ap₂ ◌+◌
              (m.differing_sum ∙ sum_same b _ _ (λ k l. ap (differing (block_of v level w_0 k) (block_of v level f k)) (sym (earlier k l))))
              (stood.differs ∙ ap (differing (block_of v level w_0 b) (block_of v level f b)) (sym here)));
          unreadable_sum = rw (add-one b) (ap₂ ◌+◌ m.unreadable_sum stood.missing);
          differing_small = omega (arith, m.differing_small, small.0);
          unreadable_small = omega (arith, m.unreadable_small, small.1);
        }

-- ---- a turn

-- what is known once the block is corrected, as the code has it: n, the room and the block's length come from the tables, and the part ends at a + long
pub record Turn : Type 0 where
  pub v : ℕ
  pub level : ℕ
  pub w_0 : List ℕ
  pub f : List ℕ
  pub w : List ℕ
  pub ys : List ℕ
  pub a : ℕ
  pub b : ℕ
  pub t : ℕ
  pub e : ℕ
  pub n : ℕ
  pub bound : ℕ
  pub long : ℕ
  pub lawful : Lawful v level
  pub mending : Mending v level w_0 f a b w t e
  pub is_block : b < block_count v level
  pub whole : length w_0 ≡ total v
  pub checks_are : n ≡ check_count v level
  pub bound_is : bound ≡ room v level
  pub long_is : long ≡ block_length v level b

module _ (turn : Turn) where
  open turn use {v, level, w_0, f, w, ys, a, b, t, e, n, bound, long, lawful, mending, is_block, whole, checks_are, bound_is, long_is}

  -- the part without the difference in it
  part_is : a + long - a ≡ block_length v level b
  part_is = add-sub_cancel_left a long ∙ long_is

  abbrev pub Given : (d : List ℕ) (x y : ℕ) → Type 0
  Given d x y = Stands n bound (take (a + long - a) (drop a w)) (take (a + long - a) (drop a f)) d x y

  module _ (k : Counts) (given : Given ys k.differing k.unreadable) where
    stands : Stands (check_count v level) (room v level) (take (block_length v level b) (drop a w)) (take (block_length v level b) (drop a f)) ys k.differing k.unreadable
    stands = rw (part_is, checks_are, bound_is) at given

    pub turn_stood : Mending v level w_0 f (a + long) (b + 1) (put_mid a (a + long - a) w ys) (t + k.differing) (e + k.unreadable)
    turn_stood =
        rw (part_is, long_is)
        (mending_more v level lawful w_0 f w ys a b t e k.differing k.unreadable mending is_block whole stands)

    pub turn_small : (k.differing ≤ 30) × (k.unreadable ≤ 30)
    turn_small = small v level lawful w_0 f w ys a b t e k.differing k.unreadable mending is_block whole stands

    -- no sum passes the counts of all blocks
    pub turn_sums : (t + k.differing ≤ 240) × (e + k.unreadable ≤ 240)
    turn_sums = (
      omega (arith, turn_small.0, mending.differing_small, is_block, blocks_most v level lawful),
      omega (arith, turn_small.1, mending.unreadable_small, is_block, blocks_most v level lawful),
    )

  pub turn_none : ((d : List ℕ) (x y : ℕ) → Given d x y → ⊥) → (d : List ℕ) (x y : ℕ) → Standing v level w_0 f b d x y → ⊥
  turn_none none d x y z =
      none d x y
      (rw (part_is, checks_are, bound_is, part_of v level a b w mending.start, mending.rest b (omega arith), part_of v level a b f mending.start) z)
