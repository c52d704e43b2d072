-- What a drawn symbol holds: its blocks are the codewords that were dealt, their data is the message's, its copies are the words. So it reads back.
use mathlib.Core.Path.{◌≡◌, refl, sym, ap, ap₂, ◌∙◌}
use mathlib.Core.Bool.{Bool, true, false, not, ◌&&◌}
use mathlib.Core.List.{List, [], ◌∷◌, map}
use Prim.Native.Nat.{ℕ, ◌+◌, ◌≤◌, ◌<◌}
use native.Mathlib.Omega.{arith}
use lib.Bits.{xor_self, and_zero_l}
use lib.Count.{ones_in}
use lib.Dec.{eqb, ltb}
use lib.ListN.{length, get_or, take, drop, replicate, length-take}
use lib.Seq.{get_or-take, get_or-drop}
use borrow.Author.Tests.{eq-eqb, lt-ltb, le-leb}
use Rattle.basics.specs.Lists.{AtMost}
use Rattle.basics.specs.Sums.{one, tally}
use Rattle.basics.specs.Bits.{low_first}
use Rattle.basics.proofs.Lists.{map_up_to_same, get_d_map_up_to, length_map_up_to}
use Rattle.basics.proofs.Sums.{sum_zero}
use Rattle.tables.specs.Tables
use Rattle.tables.proofs.Rules.{checks_most}
use Rattle.code.specs.Code.{Codeword, differing, unreadable}
use Rattle.code.proofs.Codewords.{checks_codeword}
use Rattle.words.specs.Words.{Near, format_word, format_bits, version_word}
use Rattle.blocks.specs.Blocks.{Cell, block, sent, sent_order, gathered, data_of}
use Rattle.blocks.proofs.Order.{Stood, sent_once}
use Rattle.blocks.proofs.Dealing.{length_sent, sent_at, length_block, deal_gather, data_same, data_back}
use Rattle.modules.specs.Modules.{symbol, format_places, version_places}
use Rattle.modules.proofs.Geometry.{at_any}
use Rattle.scan.specs.Received.{copied, readable, received}
use Rattle.scan.proofs.Drawn.{codeword_drawn, flag_drawn, format_word_drawn, version_word_drawn}
use Rattle.reader.specs.Reader.{block_word, block_flags}
use Rattle.promises.specs.Promises.{CopyKept}

-- ---- the blocks of what was drawn for data codewords

module _ (v level mask : ℕ) (held : List ℕ) (lawful : Tables.Lawful v level) (masks : mask < 8) (long : length held ≡ Tables.data_count v level) (bytes : AtMost 255 held) where
  part_bytes : (a n : ℕ) → AtMost 255 (take n (drop a held))
  part_bytes a n i h =
      let l : i < n = omega (arith, length-take n (drop a held)) in
      rw (get_or-take n (drop a held) i 0 l, get_or-drop a held i 0) (at_any 255 held bytes (a + i))

  pub block_codeword : (b : ℕ) → Codeword (Tables.check_count v level) (block v level held b)
  unfolding block
  block_codeword b =
      (checks_codeword (Tables.check_count v level) (take (Tables.block_data v level b) (drop (Tables.block_start v level b) held))
      (omega (arith, checks_most v level lawful)) (part_bytes (Tables.block_start v level b) (Tables.block_data v level b))).1

  sent_bytes : AtMost 255 (sent v level held)
  sent_bytes q h =
      let l : q < Tables.total v = rw (length_sent v level lawful held long) at h in
      let cell : Cell = get_or (sent_order v level) q (record { of = 0; at = 0 }) in
      let c : Stood v level q cell = (sent_once v level lawful).back q l in
      let e : get_or (sent v level held) q 0 ≡ get_or (block v level held cell.of) cell.at 0 =
      ap (λ (q : ℕ). get_or (sent v level held) q 0) (sym c.place) ∙ sent_at v level lawful held long cell.of cell.at c.block c.inside in
      let inside : cell.at < length (block v level held cell.of) = rw (length_block v level lawful held long cell.of c.block) c.inside in
      omega (arith, (block_codeword cell.of).bytes cell.at inside)

  pub word_dealt : (b : ℕ) → b < Tables.block_count v level → block_word v level (received v mask (symbol v level mask (sent v level held))) b ≡ block v level held b
  unfolding block_word gathered
  word_dealt b h =
      map_up_to_same _ _ (Tables.block_length v level b)
      (λ p l. codeword_drawn v level mask (sent v level held) lawful masks (length_sent v level lawful held long) sent_bytes _ ((sent_once v level lawful).inside b p h l))
      ∙ deal_gather v level lawful held long b h

  pub flags_dealt : (b : ℕ) → b < Tables.block_count v level → (i : ℕ) → i < Tables.block_length v level b
      → get_or (block_flags v level (received v mask (symbol v level mask (sent v level held))) b) i 0 ≡ 0
  unfolding block_flags gathered
  flags_dealt b h i l =
      get_d_map_up_to _ (Tables.block_length v level b) i 0 l
      ∙ flag_drawn v level mask (sent v level held) lawful masks (length_sent v level lawful held long) sent_bytes _ ((sent_once v level lawful).inside b i h l)

  flags_long : (b : ℕ) → length (block_flags v level (received v mask (symbol v level mask (sent v level held))) b) ≡ Tables.block_length v level b
  unfolding block_flags gathered
  flags_long b = length_map_up_to _ (Tables.block_length v level b)

  pub none_lost : (b : ℕ) → b < Tables.block_count v level → unreadable (block_flags v level (received v mask (symbol v level mask (sent v level held))) b) ≡ 0
  unfolding unreadable tally
  none_lost b h =
      sum_zero _ _ (λ k l. ap (λ (x : ℕ). one (not (eqb x 0))) (flags_dealt b h k (rw (flags_long b) at l)))

  pub data_dealt : data_of v level (block_word v level (received v mask (symbol v level mask (sent v level held)))) ≡ held
  data_dealt = data_same v level _ _ word_dealt ∙ data_back v level lawful held long

  pub formats_dealt : (copy : ℕ) → copy < 2 → copied (symbol v level mask (sent v level held)) (format_places v copy) ≡ format_word (format_bits level mask)
  formats_dealt = format_word_drawn v level mask (sent v level held) lawful masks (length_sent v level lawful held long) sent_bytes

  pub versions_dealt : (copy : ℕ) → copy < 2 → 7 ≤ v → copied (symbol v level mask (sent v level held)) (version_places v copy) ≡ version_word v
  versions_dealt = version_word_drawn v level mask (sent v level held) lawful masks (length_sent v level lawful held long) sent_bytes

-- nothing differs from itself
never : (a b : Bool) → b ≡ true → one (a && not b) ≡ 0
never true b e = rw e refl
never false b e = refl

pub none_wrong : (w flags : List ℕ) → differing w flags w ≡ 0
unfolding differing tally
none_wrong w flags = sum_zero _ _ (λ k l. never (eqb (get_or flags k 0) 0) (eqb (get_or w k 0) (get_or w k 0)) (eq-eqb (get_or w k 0) (get_or w k 0) refl))

-- ---- a copy that is read whole

all_ones : (modules : List ℕ) → AtMost 1 modules → (places : List ℕ) → map (λ p. one (ltb (get_or modules p 0) 2)) places ≡ replicate (length places) 1
all_ones modules h [] = refl
all_ones modules h (p ∷ places) = ap₂ ◌∷◌ (rw (lt-ltb (get_or modules p 0) 2 (omega (arith, at_any 1 modules h p)))) (all_ones modules h places)

readable_whole : (modules : List ℕ) → AtMost 1 modules → (k : ℕ) (places : List ℕ) → length places ≡ k → readable modules places ≡ low_first (replicate k 1)
unfolding readable
readable_whole modules h k places l = ap low_first (all_ones modules h places ∙ ap (λ (n : ℕ). replicate n 1) l)

-- a word is near itself where no bit is lost
near_self : (k w r : ℕ) → ones_in k 0 ≡ 0 → ones_in k r ≡ k → Near k w r w
unfolding Near
near_self k w r z o = rw (xor_self w, and_zero_l r, z, o) (omega arith)

pub format_kept : (v copy : ℕ) (modules : List ℕ) → AtMost 1 modules → CopyKept 15 (format_places v copy) modules modules
unfolding format_places ones_in low_first
format_kept v copy modules h =
    rw (readable_whole modules h 15 (format_places v copy) (length_map_up_to _ 15)) (near_self 15 (copied modules (format_places v copy)) (low_first (replicate 15 1)) refl refl)

pub version_kept : (v copy : ℕ) (modules : List ℕ) → 7 ≤ v → AtMost 1 modules → CopyKept 18 (version_places v copy) modules modules
unfolding version_places ones_in low_first
version_kept v copy modules d h =
    rw (readable_whole modules h 18 (version_places v copy) (rw (le-leb 7 v d) (length_map_up_to _ 18))) (near_self 18 (copied modules (version_places v copy)) (low_first (replicate 18 1)) refl refl)
