-- `reader::mend_blocks` meets its contract: `Mending` says what the loop has done, and a turn is one law.
use Rattle.std.proofs.Common.{◌≡◌, List, ℕ, ◌+◌, ◌≤◌, ◌<◌, length, refl, sym, subst, subst₂, ◌∙◌, arith}
use Rattle.basics.proofs.Parts.{length_part}
use Rattle.tables.specs.Tables.{Lawful, total, room, block_count, check_count, block_length}
use Rattle.tables.proofs.Rules.{room_most, checks_most, block_length_most, total_most}
use Rattle.blocks.proofs.Dealing.{offset_end}
use Rattle.reader.proofs.Mending.{Mending, mending_none, mending_all, Turn, turn_stood, turn_sums, turn_none}
use Rattle.reader.proofs.mend_blocks.Goals as goal

-- what is known in a turn, once the block's length is
module _ (v level count n bound : ℕ) (w_0 f w : List ℕ) (a b t e long : ℕ)
    (asked : Lawful v level × ((length w_0 ≡ total v) × (length f ≡ total v)))
    (inv : Mending v level w_0 f a b w t e × (count ≡ block_count v level) × (n ≡ check_count v level) × (bound ≡ room v level))
    (test : b < count)
    (long_is : long ≡ block_length v level b)
  where
    here : b < block_count v level
    here = omega (arith, inv.1, test)

    ends : a + long ≤ total v
    ends = omega (arith, inv.0.start, long_is, offset_end v level asked.0 b here)

    in_words : a + long ≤ length w
    in_words = omega (arith, ends, inv.0.long, asked.1.0)

    in_flags : a + long ≤ length f
    in_flags = omega (arith, ends, asked.1.1)

    -- .. and once the block is corrected
    abbrev turn : (ys : List ℕ) → Turn
    turn ys =
        record {
          v = v;
          level = level;
          w_0 = w_0;
          f = f;
          w = w;
          ys = ys;
          a = a;
          b = b;
          t = t;
          e = e;
          n = n;
          bound = bound;
          long = long;
          lawful = asked.0;
          mending = inv.0;
          is_block = here;
          whole = asked.1.0;
          checks_are = inv.2;
          bound_is = inv.3;
          long_is = long_is;
        }

-- ---- the goals
-- the laws of `Mending` say that the loop begins, goes on and ends; the rest are bounds

pub loop-b-init : goal.loop-b-init
loop-b-init c = (mending_none _ _ _ _, c.blocks-count.ensures, c.checks-n.ensures, c.room-room.ensures)

pub overflow_add-e : goal.overflow_add-e
overflow_add-e c =
    let h = ends _ _ _ _ _ _ _ _ _ _ _ _ _ c.requires c.loop-b.invariant c.loop-b-test.true c.block_length.ensures in
    omega (arith, h, total_most _ c.requires.0.least c.requires.0.most)

pub slice_bounds-correct-end : goal.slice_bounds-correct-end
slice_bounds-correct-end c =
    in_words _ _ _ _ _ _ _ _ _ _ _ _ _ c.requires c.loop-b.invariant c.loop-b-test.true c.block_length.ensures

pub slice_bounds-correct-end-in-loop-b : goal.slice_bounds-correct-end-in-loop-b
slice_bounds-correct-end-in-loop-b c =
    in_flags _ _ _ _ _ _ _ _ _ _ _ _ _ c.requires c.loop-b.invariant c.loop-b-test.true c.block_length.ensures

pub correct-requires : goal.correct-requires
correct-requires c =
    let w = in_words _ _ _ _ _ _ _ _ _ _ _ _ _ c.requires c.loop-b.invariant c.loop-b-test.true c.block_length.ensures in
    let f = in_flags _ _ _ _ _ _ _ _ _ _ _ _ _ c.requires c.loop-b.invariant c.loop-b-test.true c.block_length.ensures in (
      length_part _ _ _ f ∙ sym (length_part _ _ _ w),
      rw (length_part _ _ _ w) (omega (arith, c.block_length.ensures, block_length_most _ _ c.loop-b.b c.requires.0)),
      subst (λ (x : ℕ). x ≤ 30) (sym c.loop-b.invariant.2) (checks_most _ _ c.requires.0),
      subst₂ (λ (x y : ℕ). x ≤ y) (sym c.loop-b.invariant.3) (sym c.loop-b.invariant.2) (room_most _ _),
    )

pub returns-in_default : goal.returns-in_default
returns-in_default c =
    let k = turn _ _ _ _ _ _ _ _ _ _ _ _ _ c.requires c.loop-b.invariant c.loop-b-test.true c.block_length.ensures c.correct.new.word in
    (refl, (k.b, k.is_block, turn_none k c.in_default.ensures.1))

pub overflow_add-differing : goal.overflow_add-differing
overflow_add-differing c =
    let k = turn _ _ _ _ _ _ _ _ _ _ _ _ _ c.requires c.loop-b.invariant c.loop-b-test.true c.block_length.ensures c.correct.new.word in
    let s = turn_sums k _ c.in-Some.ensures in
    omega (arith, s.0, s.1)

pub overflow_add-unreadable : goal.overflow_add-unreadable
overflow_add-unreadable c =
    let k = turn _ _ _ _ _ _ _ _ _ _ _ _ _ c.requires c.loop-b.invariant c.loop-b-test.true c.block_length.ensures c.correct.new.word in
    let s = turn_sums k _ c.in-Some.ensures in
    omega (arith, s.0, s.1)

pub loop-b-preserved : goal.loop-b-preserved
loop-b-preserved c =
    let k = turn _ _ _ _ _ _ _ _ _ _ _ _ _ c.requires c.loop-b.invariant c.loop-b-test.true c.block_length.ensures c.correct.new.word in
    (turn_stood k _ c.in-Some.ensures, c.loop-b.invariant.1, c.loop-b.invariant.2, c.loop-b.invariant.3)

pub returns : goal.returns
returns c = mending_all _ _ _ _ _ _ _ _ _ c.loop-b.invariant.0 (omega (arith, c.loop-b-test.false, c.loop-b.invariant.1))
