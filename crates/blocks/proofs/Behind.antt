-- Data codewords in front, and the checks of each block behind them: what the buffer holds once the first b blocks have their checks,
-- what its parts are, and that a block's data and its checks are the block.
use mathlib.Core.Path.{◌≡◌, sym, ap, ap₂, ◌∙◌}
use mathlib.Core.List.{List, [], ◌++◌, map, append-nil, append_assoc}
use Prim.Native.Nat.{ℕ, zero, suc, ◌+◌, ◌-◌, ◌*◌, ◌<◌, ◌≤◌}
use native.Mathlib.Nat.{suc-mul, zero-mul, mul-le-mul_right, mul_comm}
use native.Mathlib.Numerals.{add-one}
use native.Mathlib.Omega.{arith}
use lib.ListN.{length, take, drop, length-append, length-drop, take-append-drop}
use lib.Seq.{length-take-le, take-append-le, drop-append-le, drop-append-add, drop-drop, drop-length, take_at}
use borrow.Rule.Slice.PartMut.{put_mid}
use Rattle.basics.specs.Lists.{up_to, from, joined}
use Rattle.basics.specs.Sums.{sum}
use Rattle.basics.proofs.Parts.{the_part, lent_front}
use Rattle.tables.specs.Tables.{total, check_count, block_count, data_count, block_data, block_start, Lawful}
use Rattle.tables.proofs.Rules.{data_checks, block_end}
use Rattle.blocks.specs.Blocks.{block, block_checks, data_then_checks}
use Rattle.code.specs.Code.{checks}
use Rattle.blocks.proofs.Cuts.{joined_suc, length_joined, part_joined}
use Rattle.blocks.proofs.Dealing.{length_checks}

-- a part of the front
pub part_front : (p r : List ℕ) (a n : ℕ) → a + n ≤ length p → take (a + n - a) (drop a (p ++ r)) ≡ take n (drop a p)
part_front p r a n h =
    let room : n ≤ length (drop a p) = rw length-drop (omega arith) in
    rw (the_part (p ++ r) a n, drop-append-le a p r (omega arith)) (take-append-le n (drop a p) r room)

sum_same_each : (n b : ℕ) → sum b (λ k. n) ≡ b * n
unfolding sum
sum_same_each n zero = sym (zero-mul n)
sum_same_each n (suc b) = rw suc-mul (omega (arith, sum_same_each n b))

module _ (v level : ℕ) (codewords : List ℕ) where
  -- the data, and the checks of the first b blocks
  unfoldable pub front : ℕ → List ℕ
  front b = codewords ++ joined (map (block_checks v level codewords) (up_to b))

  length_block_checks : (b : ℕ) → length (block_checks v level codewords b) ≡ check_count v level
  unfolding block_checks
  length_block_checks b = length_checks (check_count v level) _

  length_all_checks : (b : ℕ) → length (joined (map (block_checks v level codewords) (up_to b))) ≡ b * check_count v level
  length_all_checks b =
      length_joined (block_checks v level codewords) (λ k. check_count v level) b (λ k l. length_block_checks k) ∙ sum_same_each (check_count v level) b

  pub length_front : (b : ℕ) → length (front b) ≡ length codewords + b * check_count v level
  unfolding front
  length_front b = length-append codewords _ ∙ ap (λ (n : ℕ). length codewords + n) (length_all_checks b)

  -- before the first block
  pub front_none : (words : List ℕ) (d : ℕ) → take d words ≡ codewords → words ≡ front 0 ++ drop d words
  unfolding front joined up_to from
  front_none words d e = sym (rw (append-nil, ← e) (take-append-drop d words))

  front_next : (b : ℕ) → front b ++ block_checks v level codewords b ≡ front (b + 1)
  unfolding front
  front_next b =
      append_assoc codewords _ (block_checks v level codewords b)
      ∙ ap (λ (l : List ℕ). codewords ++ l) (sym (joined_suc (block_checks v level codewords) b) ∙ ap (λ (n : ℕ). joined (map (block_checks v level codewords) (up_to n))) (sym (add-one b)))

  -- the part behind the front is lent, and comes back as the checks of block b
  pub front_more : (words words_0 ys : List ℕ) (b c n : ℕ) → words ≡ front b ++ drop c words_0 → length (front b) ≡ c → ys ≡ block_checks v level codewords b
      → put_mid c (c + n - c) words ys ≡ front (b + 1) ++ drop (c + n) words_0
  front_more words words_0 ys b c n e h y =
      lent_front words (front b) (drop c words_0) ys c n e h
      ∙ ap₂ (λ (p r : List ℕ). p ++ r) (ap (λ (l : List ℕ). front b ++ l) y ∙ front_next b) (drop-drop n c words_0)

  -- after the last block
  pub front_all : (words words_0 : List ℕ) (b c : ℕ) → words ≡ front b ++ drop c words_0 → b ≡ block_count v level → c ≡ length words_0
      → words ≡ data_then_checks v level codewords
  unfolding front data_then_checks
  front_all words words_0 b c e h l = e ∙ rw (h, l, drop-length words_0) (append-nil _)

  -- what was read from the data of block b, and what was made of it
  pub made_checks : (part made ys : List ℕ) (n b : ℕ) → n ≡ check_count v level → part ≡ take (block_data v level b) (drop (block_start v level b) codewords)
      → take n made ≡ checks n part → ys ≡ take n made → ys ≡ block_checks v level codewords b
  unfolding block_checks
  made_checks part made ys n b e h m y = y ∙ m ∙ rw (e, h)

  -- a block is its data and its checks
  pub both_parts : (held made : List ℕ) (b : ℕ) → held ≡ take (block_data v level b) (drop (block_start v level b) codewords) → made ≡ block_checks v level codewords b
      → held ++ made ≡ block v level codewords b
  unfolding block block_checks
  both_parts held made b h m = rw (h, m)

module _ (v level : ℕ) (lawful : Lawful v level) where
  -- the checks of block b end within the codewords
  pub checks_within : (b c : ℕ) → b < block_count v level → c ≡ data_count v level + b * check_count v level → c + check_count v level ≤ total v
  checks_within b c h e =
      let less : suc b * check_count v level ≤ block_count v level * check_count v level = mul-le-mul_right (check_count v level) h in
      omega (arith, rw suc-mul at less, data_checks v level lawful, mul_comm (check_count v level) (block_count v level))

  pub checks_end : (b c : ℕ) → b ≡ block_count v level → c ≡ data_count v level + b * check_count v level → c ≡ total v
  checks_end b c h e = e ∙ rw h (omega (arith, data_checks v level lawful, mul_comm (check_count v level) (block_count v level)))

  pub length_front_data : (words : List ℕ) → length words ≡ total v → length (take (data_count v level) words) ≡ data_count v level
  length_front_data words h = length-take-le (data_count v level) words (omega (arith, data_checks v level lawful))

  module _ (codewords : List ℕ) (long : length codewords ≡ data_count v level) where
    -- how long the front is, and the whole
    pub front_ends : (b c : ℕ) → c ≡ data_count v level + b * check_count v level → length (front v level codewords b) ≡ c
    front_ends b c e = length_front v level codewords b ∙ rw long (sym e)

    -- the data of block b, in a buffer with any front
    pub held_part : (words rest : List ℕ) (k b a n : ℕ) → words ≡ front v level codewords k ++ rest → b < block_count v level → a ≡ block_start v level b → n ≡ block_data v level b
        → take (a + n - a) (drop a words) ≡ take (block_data v level b) (drop (block_start v level b) codewords)
    unfolding front
    held_part words rest k b a n w h e m =
        rw (w, append_assoc) (part_front codewords _ a n (omega (arith, block_end v level b lawful h)) ∙ rw (e, m))

    -- the checks of block b, once all are there
    pub checks_part : (words : List ℕ) (b c n : ℕ) → words ≡ data_then_checks v level codewords → b < block_count v level → c ≡ data_count v level + b * check_count v level
        → n ≡ check_count v level → take (c + n - c) (drop c words) ≡ block_checks v level codewords b
    unfolding data_then_checks
    checks_part words b c n w h e m =
        let at : c ≡ length codewords + sum b (λ k. check_count v level) = omega (arith, sum_same_each (check_count v level) b) in
        the_part words c n
        ∙ rw (w, m, at, drop-append-add) (part_joined (block_checks v level codewords) (λ k. check_count v level) (block_count v level) (λ k l. length_block_checks v level codewords k) b h)

    -- all of them are a front, with nothing behind it
    pub all_front : (words : List ℕ) → words ≡ data_then_checks v level codewords → words ≡ front v level codewords (block_count v level) ++ []
    unfolding data_then_checks front
    all_front words w = w ∙ sym (append-nil _)

    -- the data stands in front, and nothing is longer or shorter
    pub data_first : (words : List ℕ) → words ≡ data_then_checks v level codewords → take (data_count v level) words ≡ codewords
    unfolding data_then_checks
    data_first words w = rw w (take_at codewords _ (data_count v level) long)
