-- Where the parts of block b start and end: its data in front, its checks behind all data, and the block among blocks that stand one after the other.
use Rattle.std.proofs.Common.{◌≡◌, ℕ, zero, suc, ◌+◌, ◌*◌, ◌≤◌, ◌<◌, refl, arith}
use native.Mathlib.Nat.{suc-mul, zero-mul, mul-le-mul_right, mul_comm}
use Rattle.basics.specs.Sums.{sum}
use Rattle.tables.specs.Tables.{Lawful, total, block_count, block_data, block_start, block_length, check_count, data_count}
use Rattle.tables.proofs.Rules.{block_end, block_start_later, data_sum, data_checks, total_most}
use Rattle.blocks.specs.Blocks.{block_offset}
use Rattle.blocks.proofs.Behind.{checks_within}
use Rattle.blocks.proofs.Dealing.{offset_end}

-- ---- where they start

pub behind_by : (v level b D n : ℕ) → D ≡ data_count v level → n ≡ check_count v level → D + b * n ≡ data_count v level + b * check_count v level
behind_by v level b D n d e = rw (d, e) refl

offset_at : (v level b : ℕ) → block_start v level b + b * check_count v level ≡ block_offset v level b
unfolding block_offset block_start block_length sum
offset_at v level zero = rw zero-mul refl
offset_at v level (suc b) = rw suc-mul (omega (arith, offset_at v level b))

pub offset_by : (v level b n : ℕ) → n ≡ check_count v level → block_start v level b + b * n ≡ block_offset v level b
offset_by v level b n e = rw e (offset_at v level b)

-- ---- where they end

module _ (v level b : ℕ) (lawful : Lawful v level) where
  pub few : total v ≤ 346
  few = total_most v lawful.least lawful.most

  -- none starts past the end
  start_most : b ≤ block_count v level → block_start v level b ≤ data_count v level
  start_most h = omega (arith, block_start_later v level b (block_count v level) h, data_sum v level lawful)

  behind_most : b ≤ block_count v level → data_count v level + b * check_count v level ≤ total v
  behind_most h =
      let less : b * check_count v level ≤ block_count v level * check_count v level = mul-le-mul_right (check_count v level) h in
      omega (arith, less, data_checks v level lawful, mul_comm (check_count v level) (block_count v level))

  offset_most : b ≤ block_count v level → block_offset v level b ≤ total v
  offset_most h = omega (arith, offset_at v level b, start_most h, behind_most h)

  pub held_end : b < block_count v level → block_start v level b + block_data v level b ≤ total v
  held_end next = omega (arith, block_end v level b lawful next, data_checks v level lawful)

  pub made_end : b < block_count v level → data_count v level + b * check_count v level + check_count v level ≤ total v
  made_end next = checks_within v level lawful b _ next refl

  pub offset_held : b < block_count v level → block_offset v level b + block_data v level b + check_count v level ≤ total v
  unfolding block_length
  offset_held next = omega (arith, offset_end v level lawful b next)

  pub behind_fits : (D n : ℕ) → D ≡ data_count v level → n ≡ check_count v level → b ≤ block_count v level → D + b * n ≤ 346
  behind_fits D n d e h = omega (arith, behind_by v level b D n d e, behind_most h, few)

  pub offset_fits : (n : ℕ) → n ≡ check_count v level → b ≤ block_count v level → block_start v level b + b * n ≤ 346
  offset_fits n e h = omega (arith, offset_by v level b n e, offset_most h, few)
