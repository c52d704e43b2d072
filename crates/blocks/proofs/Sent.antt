-- Blocks that are dealt one after the other: once the first b are at their places, the next leaves them there, since no two codewords share a
-- place; and once all are, every place is taken, and what stands there is what is sent.
use mathlib.Core.Path.{◌≡◌, sym, ap, ◌∙◌}
use mathlib.Core.Logic.{⊎_elim}
use mathlib.Core.List.{List}
use Prim.Native.Nat.{ℕ, ◌+◌, ◌<◌}
use native.Mathlib.Nat.{eq-or-lt_of_le}
use native.Mathlib.Omega.{arith}
use lib.ListN.{length, get_or}
use lib.Seq.{ext_get_or}
use Rattle.tables.specs.Tables.{total, block_count, data_count, block_length, Lawful}
use Rattle.blocks.specs.Blocks.{block, sent, sent_place, dealt}
use Rattle.blocks.proofs.Order.{sent_once, place_only}
use Rattle.blocks.proofs.Walks.{dealt_length, dealt_other, dealt_at}
use Rattle.blocks.proofs.Dealing.{length_block, sent_at, length_sent}

-- the first b blocks are at their places
abbrev pub Sent : (v level : ℕ) (codewords out : List ℕ) (b : ℕ) → Type 0
Sent v level codewords out b = (j p : ℕ) → j < b → p < block_length v level j → get_or out (sent_place v level j p) 0 ≡ get_or (block v level codewords j) p 0

pub sent_none : (v level : ℕ) (codewords out : List ℕ) → Sent v level codewords out 0
sent_none v level codewords out j p h l = absurd (omega arith)

module _ (v level : ℕ) (lawful : Lawful v level) (codewords : List ℕ) (long : length codewords ≡ data_count v level) where
  module _ (out : List ℕ) (b : ℕ) (hb : b < block_count v level) (full : length out ≡ total v) where
    -- this block's codewords are put at their places
    this : (p : ℕ) → p < block_length v level b → get_or (dealt (sent_place v level b) (block v level codewords b) out) (sent_place v level b p) 0 ≡ get_or (block v level codewords b) p 0
    this p h =
        let n = length_block v level lawful codewords long b hb in
        dealt_at (sent_place v level b) (block v level codewords b) out
        (λ i j hi hj e. (place_only v level lawful b i b j hb (rw n at hi) hb (rw n at hj) e).1)
        p (rw n h) (rw full ((sent_once v level lawful).inside b p hb h))

    -- and those of an earlier block stay
    earlier : Sent v level codewords out b → (j p : ℕ) → j < b → p < block_length v level j
        → get_or (dealt (sent_place v level b) (block v level codewords b) out) (sent_place v level j p) 0 ≡ get_or (block v level codewords j) p 0
    earlier before j p l h =
        let n = length_block v level lawful codewords long b hb in
        dealt_other (sent_place v level b) (block v level codewords b) out (sent_place v level j p)
        (λ k m e. let same = place_only v level lawful j p b k (omega arith) h hb (rw n at m) e in omega arith)
        ∙ before j p l h

    dealt_block : Sent v level codewords out b → let after = dealt (sent_place v level b) (block v level codewords b) out in
        (length after ≡ total v) × Sent v level codewords after (b + 1)
    dealt_block before = (
      dealt_length (sent_place v level b) (block v level codewords b) out ∙ full,
      λ j p h l. ⊎_elim (λ (s : j ≡ b). rw s (this p (rw s at l))) (λ m. earlier before j p m l) (eq-or-lt_of_le (omega arith)),
    )

    -- as a turn has it
    pub sent_more : (after xs : List ℕ) → Sent v level codewords out b → xs ≡ block v level codewords b → after ≡ dealt (sent_place v level b) xs out
        → (length after ≡ total v) × Sent v level codewords after (b + 1)
    sent_more after xs before same e = rw (e, same) (dealt_block before)

  pub sent_all : (out : List ℕ) → length out ≡ total v → Sent v level codewords out (block_count v level) → out ≡ sent v level codewords
  sent_all out full all =
      ext_get_or 0 out (sent v level codewords) (full ∙ sym (length_sent v level lawful codewords long))
      (λ q h.
      let c = (sent_once v level lawful).back q (rw full at h) in
      ap (λ (x : ℕ). get_or out x 0) (sym c.place) ∙ all _ _ c.block c.inside
      ∙ sym (sent_at v level lawful codewords long _ _ c.block c.inside)
      ∙ ap (λ (x : ℕ). get_or (sent v level codewords) x 0) c.place)
