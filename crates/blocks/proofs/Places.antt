-- The closed form of a codeword's place in each of its four cases, and what the table's numbers say of it.
use mathlib.Core.Path.{◌≡◌, refl}
use Prim.Native.Nat.{ℕ, ◌+◌, ◌-◌, ◌*◌, ◌<◌, ◌≤◌}
use native.Mathlib.Nat.{add-zero}
use native.Mathlib.Omega.{arith}
use lib.Dec.{leb}
use borrow.Author.Tests.{lt-ltb, le-ltb, le-leb, lt-leb}
use Rattle.basics.specs.Sums.{one}
use Rattle.tables.specs.Tables.{total, block_count, data_count, short_length, short_blocks, block_length, Lawful}
use Rattle.blocks.specs.Blocks.{place_by, sent_place}
use Rattle.blocks.proofs.Order.{sent_once}

-- a row starts within few codewords
pub row_most : (p m : ℕ) → p < 256 → m ≤ 8 → p * m ≤ 2040
row_most p m h l = grind arith

module _ (D B short few b p : ℕ) where
  held_short : b < few → short + one (leb few b) ≡ short
  held_short h = rw (lt-leb few b h) (add-zero short)

  held_long : few ≤ b → short + one (leb few b) ≡ short + 1
  held_long h = rw (le-leb few b h) refl

  -- a codeword of a row that every block has
  pub in_short : p < short → place_by D B short few b p ≡ p * B + b
  unfolding place_by
  in_short h = rw (lt-ltb p (short + one (leb few b)) (omega arith), lt-ltb p short h)

  -- the last data codeword of a long block
  pub in_last : few ≤ b → p ≡ short → place_by D B short few b p ≡ p * B + (b - few)
  unfolding place_by
  in_last h e = rw (lt-ltb p (short + one (leb few b)) (omega (arith, held_long h)), le-ltb p short (omega arith))

  -- a check of a short block, and of a long one
  pub short_check : b < few → short ≤ p → place_by D B short few b p ≡ D + (p - short) * B + b
  unfolding place_by
  short_check h l = rw (le-ltb p (short + one (leb few b)) (omega (arith, held_short h))) (rw (held_short h) refl)

  pub long_check : few ≤ b → short < p → place_by D B short few b p ≡ D + (p - (short + 1)) * B + b
  unfolding place_by
  long_check h l = rw (le-ltb p (short + one (leb few b)) (omega (arith, held_long h))) (rw (held_long h) refl)

-- ---- the table's numbers

-- of the numbers of a version and a level it is the place
pub same_place : (v level D B short few b p : ℕ) → D ≡ data_count v level → B ≡ block_count v level → short ≡ short_length v level → few ≡ short_blocks v level
    → place_by D B short few b p ≡ sent_place v level b p
unfolding sent_place
same_place v level D B short few b p d n s f = rw (d, n, s, f) refl

pub place_within : (v level b p : ℕ) → Lawful v level → b < block_count v level → p < block_length v level b → sent_place v level b p < total v
place_within v level b p lawful hb hp = (sent_once v level lawful).inside b p hb hp
