-- The version table's rules. Each is one test that antt computes at the ten versions and four levels, and one law that reads it;
-- what a block holds and where it starts follows from those by arithmetic, for every block.
use mathlib.Core.Path.{◌≡◌, refl, sym, ap, ◌∙◌}
use mathlib.Core.Bool.{Bool, true, false}
use mathlib.Core.List.{List, [], ◌∷◌}
use Prim.Native.Nat.{ℕ, zero, suc, ◌+◌, ◌-◌, ◌*◌, ◌<◌, ◌≤◌}
use native.Mathlib.Nat.{not-suc-le-zero, le_refl, suc-mul, eq-or-lt_of_le, le_of_suc-le-suc}
use native.Mathlib.Omega.{arith}
use mathlib.Core.Logic.{⊎_elim}
use lib.Dec.{T, leb, leb→le, eqb, eqb→eq}
use lib.ListN.{get_or, drop}
use borrow.Author.Tests.{leb-true, leb-false}
use Rattle.basics.specs.Sums.{one, sum}
use Rattle.basics.proofs.Test.{all, grid, either, either_cases, is_not, is_not_lem}
use Rattle.tables.specs.Version.{Square}
use Rattle.tables.specs.Theorems.{Rules, LargestRules, FixesOnly}
use Rattle.std.specs.Prelude.{Some, None}
use Rattle.tables.specs.Tables.{Lawful, side, totals, check_rows, block_rows, total, check_count, block_count, data_count, short_length, short_blocks, block_data, block_start, block_length, room, last_version}

-- ---- one test at all versions and levels

abbrev pub everywhere : (ℕ → ℕ → Bool) → Bool
everywhere f = all 10 (λ u. all 4 (f (suc u)))

pub rule : (f : ℕ → ℕ → Bool) → T (everywhere f) → (v level : ℕ) → Lawful v level → T (f v level)
rule f t zero level l = absurd (not-suc-le-zero l.least)
rule f t (suc u) level l = grid 10 4 (λ u. f (suc u)) t u level (omega arith) (omega arith)

-- an entry of a list, where its front is left out
pub past_front : {A : Type 0} (d : A) (xs : List A) (v : ℕ) → 1 ≤ v → get_or (drop 1 xs) (v - 1) d ≡ get_or xs v d
past_front d xs zero h = absurd (not-suc-le-zero h)
past_front d [] (suc u) h = refl
past_front d (x ∷ xs) (suc u) h = let e : suc u - 1 ≡ u = omega arith in ap (λ (k : ℕ). get_or xs k d) e

-- ---- totals, checks, blocks

total_tested : T (everywhere (λ v level. leb (total v) 346))
unfolding total totals
total_tested = tt

pub total_most : (v : ℕ) → 1 ≤ v → v ≤ last_version → total v ≤ 346
total_most v h k = leb→le _ _ (rule (λ v level. leb (total v) 346) total_tested v 0 (record { least = h; most = k; levels = omega arith }))

checks_most_tested : T (everywhere (λ v level. leb (check_count v level) 30))
unfolding check_count check_rows
checks_most_tested = tt

pub checks_most : (v level : ℕ) → Lawful v level → check_count v level ≤ 30
checks_most v level l = leb→le _ _ (rule (λ v level. leb (check_count v level) 30) checks_most_tested v level l)

blocks_least_tested : T (everywhere (λ v level. leb 1 (block_count v level)))
unfolding block_count block_rows
blocks_least_tested = tt

pub blocks_least : (v level : ℕ) → Lawful v level → 1 ≤ block_count v level
blocks_least v level l = leb→le _ _ (rule (λ v level. leb 1 (block_count v level)) blocks_least_tested v level l)

blocks_most_tested : T (everywhere (λ v level. leb (block_count v level) 8))
unfolding block_count block_rows
blocks_most_tested = tt

pub blocks_most : (v level : ℕ) → Lawful v level → block_count v level ≤ 8
blocks_most v level l = leb→le _ _ (rule (λ v level. leb (block_count v level) 8) blocks_most_tested v level l)

-- the room of a block is its checks
room_all : (v level : ℕ) → room v level ≡ check_count v level
unfolding room
room_all v level = refl

pub room_most : (v level : ℕ) → room v level ≤ check_count v level
unfolding room
room_most v level = le_refl (check_count v level)

-- ---- data codewords

-- the checks leave nine data codewords or more
fit_tested : T (everywhere (λ v level. leb (check_count v level * block_count v level + 9) (total v)))
unfolding check_count check_rows block_count block_rows total totals
fit_tested = tt

pub checks_fit : (v level : ℕ) → Lawful v level → check_count v level * block_count v level + 9 ≤ total v
checks_fit v level l = leb→le _ _ (rule (λ v level. leb (check_count v level * block_count v level + 9) (total v)) fit_tested v level l)

data_tested : T (everywhere (λ v level. leb (data_count v level) 274))
unfolding data_count check_count check_rows block_count block_rows total totals
data_tested = tt

pub data_most : (v level : ℕ) → Lawful v level → data_count v level ≤ 274
data_most v level l = leb→le _ _ (rule (λ v level. leb (data_count v level) 274) data_tested v level l)

-- "Data codewords D = total − n·B", and D is positive
pub data_checks : (v level : ℕ) → Lawful v level → data_count v level + check_count v level * block_count v level ≡ total v
unfolding data_count
data_checks v level l = omega (arith, checks_fit v level l)

pub data_least : (v level : ℕ) → Lawful v level → 9 ≤ data_count v level
unfolding data_count
data_least v level l = omega (arith, checks_fit v level l)

-- ---- blocks

short_least_tested : T (everywhere (λ v level. leb 9 (short_length v level)))
unfolding short_length data_count check_count check_rows block_count block_rows total totals
short_least_tested = tt

pub short_least : (v level : ℕ) → Lawful v level → 9 ≤ short_length v level
short_least v level l = leb→le _ _ (rule (λ v level. leb 9 (short_length v level)) short_least_tested v level l)

-- a long block's length is under 256
long_tested : T (everywhere (λ v level. leb (short_length v level + 1 + check_count v level) 255))
unfolding short_length data_count check_count check_rows block_count block_rows total totals
long_tested = tt

pub long_most : (v level : ℕ) → Lawful v level → short_length v level + 1 + check_count v level ≤ 255
long_most v level l = leb→le _ _ (rule (λ v level. leb (short_length v level + 1 + check_count v level) 255) long_tested v level l)

pub one_most : (b : Bool) → one b ≤ 1
one_most true = omega arith
one_most false = omega arith

pub block_data_least : (v level b : ℕ) → Lawful v level → 9 ≤ block_data v level b
unfolding block_data
block_data_least v level b l = omega (arith, short_least v level l)

pub block_length_most : (v level b : ℕ) → Lawful v level → block_length v level b < 256
unfolding block_length block_data
block_length_most v level b l = omega (arith, long_most v level l, one_most (leb (short_blocks v level) b))

-- where the data of a block starts
one_short : (first b : ℕ) → b - first + one (leb first b) ≡ suc b - first
one_short first b = pick (leb first b) refl
  where
    pick : (x : Bool) → leb first b ≡ x → b - first + one x ≡ suc b - first
    pick true e = omega (arith, leb-true first b e)
    pick false e = omega (arith, leb-false first b e)

pub block_start_lem : (v level b : ℕ) → block_start v level b ≡ b * short_length v level + (b - short_blocks v level)
unfolding block_start sum block_data
block_start_lem v level zero = omega arith
block_start_lem v level (suc b) =
    rw suc-mul (omega (arith, block_start_lem v level b, one_short (short_blocks v level) b))

-- "data fills the blocks in order": the blocks' data is D, and with the checks the blocks are the whole
data_sum_tested : T (everywhere (λ v level. eqb (block_start v level (block_count v level)) (data_count v level)))
unfolding block_start sum block_data short_blocks short_length data_count check_count check_rows block_count block_rows total totals
data_sum_tested = tt

pub data_sum : (v level : ℕ) → Lawful v level → block_start v level (block_count v level) ≡ data_count v level
data_sum v level l = eqb→eq _ _ (rule (λ v level. eqb (block_start v level (block_count v level)) (data_count v level)) data_sum_tested v level l)

length_sum_tested : T (everywhere (λ v level. eqb (sum (block_count v level) (block_length v level)) (total v)))
unfolding sum block_length block_data short_blocks short_length data_count check_count check_rows block_count block_rows total totals
length_sum_tested = tt

pub length_sum : (v level : ℕ) → Lawful v level → sum (block_count v level) (block_length v level) ≡ total v
length_sum v level l = eqb→eq _ _ (rule (λ v level. eqb (sum (block_count v level) (block_length v level)) (total v)) length_sum_tested v level l)

-- the next block starts where a block's data ends
pub block_next : (v level b : ℕ) → block_start v level (suc b) ≡ block_start v level b + block_data v level b
unfolding block_start sum
block_next v level b = refl

pub block_start_later : (v level b c : ℕ) → b ≤ c → block_start v level b ≤ block_start v level c
block_start_later v level b zero h = let e : b ≡ 0 = omega arith in rw e (le_refl (block_start v level 0))
block_start_later v level b (suc c) h =
    ⊎_elim (λ (e : b ≡ suc c). rw e (le_refl (block_start v level (suc c))))
    (λ l. omega (arith, block_next v level c, block_start_later v level b c (le_of_suc-le-suc l)))
    (eq-or-lt_of_le h)

-- a block's data ends within the data
pub block_end : (v level b : ℕ) → Lawful v level → b < block_count v level → block_start v level b + block_data v level b ≤ data_count v level
block_end v level b l h =
    omega (arith, block_next v level b, block_start_later v level (suc b) (block_count v level) h, data_sum v level l)

-- ---- all of them

pub tables_rules : Rules
tables_rules v level l =
    record {
      whole = data_checks v level l;
      positive = omega (arith, data_least v level l);
      starts = block_start_lem v level;
      filled = data_sum v level l;
      lengths = length_sum v level l;
      held = λ b. omega (arith, block_data_least v level b l);
      short = λ b. block_length_most v level b l;
      bound = room_all v level;
      codewords = total_most v l.least l.most;
      checks = checks_most v level l;
      blocks = blocks_most v level l;
    }

-- each size of a buffer is that of some version and level
pub largest_rules : LargestRules
unfolding data_count check_count check_rows block_count block_rows total totals
largest_rules =
    record {
      sides = refl;
      modules = refl;
      codewords = refl;
      held = (10, (0, (record { least = omega arith; most = omega arith; levels = omega arith }, refl)));
      checks = (9, (0, (record { least = omega arith; most = omega arith; levels = omega arith }, refl)));
      blocks = (10, (3, (record { least = omega arith; most = omega arith; levels = omega arith }, refl)));
    }

-- ---- sides

-- "side length fixes the version": no two versions have one length
side_tested : T (all 11 (λ v. all 11 (λ w. either (eqb v w) (is_not (side w * side w) (side v * side v)))))
side_tested = tt

pub version_only : (n v w : ℕ) → Square n v → Square n w → v ≡ w
version_only n v w p q =
    ⊎_elim (eqb→eq v w) (λ t. absurd (is_not_lem (side w * side w) (side v * side v) t (sym p.long ∙ q.long)))
    (either_cases (eqb v w) _
    (grid 11 11 (λ v w. either (eqb v w) (is_not (side w * side w) (side v * side v))) side_tested v w (omega (arith, p.most)) (omega (arith, q.most))))

-- no two different answers meet the promise of `version_of`
pub fixes_only : FixesOnly
fixes_only n (Some v) (Some w) p q = ap Some (version_only n v w p q)
fixes_only n (Some v) None p q = absurd (q v p)
fixes_only n None (Some w) p q = absurd (p w q)
fixes_only n None None p q = refl
