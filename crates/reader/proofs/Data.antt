-- From the codewords as they were received to the data codewords of the corrected blocks: gathered block by block, corrected, and taken in order.
use mathlib.Core.Path.{◌≡◌, sym, ap, subst₂, ◌∙◌}
use mathlib.Core.List.{List, ◌++◌, map}
use Prim.Native.Nat.{ℕ, ◌≤◌, ◌<◌}
use native.Mathlib.Omega.{arith}
use lib.ListN.{length, get_or, take, length-append}
use lib.Seq.{take_at, length-take-le}
use Rattle.basics.specs.Lists.{up_to}
use Rattle.basics.proofs.Lists.{map_up_to_same, get_d_map_up_to, length_map_up_to}
use Rattle.tables.specs.Tables.{Lawful, total, data_count, block_count, block_data, block_start, check_count, block_length, room}
use Rattle.tables.specs.Version.{Square}
use Rattle.tables.proofs.Rules.{data_sum, total_most, data_most}
use Rattle.code.specs.Code.{Stands}
use Rattle.blocks.specs.Blocks.{gathered, gathered_all, block_of, data_of}
use Rattle.blocks.proofs.Cuts.{length_joined}
use Rattle.blocks.proofs.Order.{sent_once}
use Rattle.blocks.proofs.Dealing.{length_gathered_all, block_of_gathered}
use Rattle.parse.specs.Parse.{most_data}
use Rattle.parse.proofs.Encode.{data_most as data_short}
use Rattle.scan.specs.Received.{received, codeword, flag, codewords, flags}
use Rattle.corrector.specs.declared.Counts.{Counts}
use Rattle.reader.specs.declared.Meta.{Meta}
use Rattle.reader.specs.Reader.{block_word, block_flags, BlockStands, NoCodeword}
use Rattle.reader.specs.Steps.{FormatRead, Collected, Standing, wrong_in, lost_in, AllMended, WithinBounds}

-- as many codewords and flags as the version has
pub codewords_long : (v mask : ℕ) (m : List ℕ) → length (codewords v mask m) ≡ total v
unfolding codewords
codewords_long v mask m = length_map_up_to _ (total v)

pub flags_long : (v mask : ℕ) (m : List ℕ) → length (flags v mask m) ≡ total v
unfolding flags
flags_long v mask m = length_map_up_to _ (total v)

-- what was written to the front of a buffer
pub front_is : (n : ℕ) (xs ys zs : List ℕ) → xs ≡ ys → length ys ≡ n → take n (xs ++ zs) ≡ ys
front_is n xs ys zs e l = rw e (take_at ys zs n l)

-- the level that was read is one of the version's
pub lawful_read : (v : ℕ) (m : List ℕ) (meta : Meta) → Square (length m) v → FormatRead v m meta → Lawful v meta.level
lawful_read v m meta s f = record { least = s.least; most = s.most; levels = omega (arith, f.stands.levels) }

-- that a version's codewords have room, and how many they are
pub ruleset rooms = (total_most, data_most, lawful_read, length-take-le, codewords_long, flags_long, length-append, take_at)

module _ (v level : ℕ) (lawful : Lawful v level) where
  -- a block that was gathered from a list of what stands at each place
  gathered_block : (f : ℕ → ℕ) (b : ℕ) → b < block_count v level
      → block_of v level (gathered_all v level (λ q. get_or (map f (up_to (total v))) q 0)) b ≡ gathered v level f b
  unfolding gathered
  gathered_block f b h =
      block_of_gathered v level (λ q. get_or (map f (up_to (total v))) q 0) b h
      ∙ map_up_to_same _ _ (block_length v level b) (λ p l. get_d_map_up_to f (total v) _ 0 ((sent_once v level lawful).inside b p h l))

  pub collected : (mask : ℕ) (m words marks blocks lost : List ℕ) → words ≡ codewords v mask m → marks ≡ flags v mask m
      → blocks ≡ gathered_all v level (λ q. get_or words q 0) → lost ≡ gathered_all v level (λ q. get_or marks q 0) → Collected v level (received v mask m) blocks lost
  unfolding block_word block_flags codewords flags
  collected mask m words marks blocks lost hw hm hb hl =
      record {
        words_long = ap length hb ∙ length_gathered_all v level lawful _;
        flags_long = ap length hl ∙ length_gathered_all v level lawful _;
        words_of = λ b h. rw (hb, hw) (gathered_block (codeword (received v mask m)) b h);
        flags_of = λ b h. rw (hl, hm) (gathered_block (flag (received v mask m)) b h);
      }

module _ (v level : ℕ) (bs blocks lost mended held : List ℕ) (c : Collected v level bs blocks lost) where
  forth : (b : ℕ) → b < block_count v level → (d : List ℕ) (t e : ℕ) → Standing v level blocks lost b d t e → BlockStands v level bs b d t e
  forth b h d t e = subst₂ (λ (x y : List ℕ). Stands (check_count v level) (room v level) x y d t e) (c.words_of b h) (c.flags_of b h)

  back : (b : ℕ) → b < block_count v level → (d : List ℕ) (t e : ℕ) → BlockStands v level bs b d t e → Standing v level blocks lost b d t e
  back b h d t e = subst₂ (λ (x y : List ℕ). Stands (check_count v level) (room v level) x y d t e) (sym (c.words_of b h)) (sym (c.flags_of b h))

  pub data_within : (s : Counts) → AllMended v level blocks lost mended s → held ≡ data_of v level (block_of v level mended) → WithinBounds v level bs held s
  data_within s a d =
      record {
        blocks = block_of v level mended;
        ts = wrong_in v level blocks lost mended;
        es = lost_in v level lost;
        stand = λ b h. forth b h _ _ _ (a.stand b h);
        data_is = d;
        differing_sum = a.differing_sum;
        unreadable_sum = a.unreadable_sum;
      }

  pub data_beyond : (b : ℕ) × (b < block_count v level) × ((d : List ℕ) (t e : ℕ) → Standing v level blocks lost b d t e → ⊥) → NoCodeword v level bs
  data_beyond n = (n.0, n.1, λ d t e s. n.2 d t e (back n.0 n.1 d t e s))

-- as many data codewords as the version and level has
pub data_length : (v level : ℕ) (bs : List ℕ) (blocks : ℕ → List ℕ) → Lawful v level
    → ((b : ℕ) → b < block_count v level → length (blocks b) ≡ length (block_word v level bs b)) → length (data_of v level blocks) ≡ data_count v level
unfolding data_of block_word gathered block_start block_length
data_length v level bs blocks lawful h =
    length_joined (λ b. take (block_data v level b) (blocks b)) (block_data v level) (block_count v level)
    (λ b l. length-take-le (block_data v level b) (blocks b) (rw (h b l ∙ length_map_up_to _ (block_length v level b)) (omega arith)))
    ∙ data_sum v level lawful

-- so the stream reads no more than a version has
pub within_long : (v level : ℕ) (bs held : List ℕ) (s : Counts) → Lawful v level → WithinBounds v level bs held s → length held ≤ most_data v
within_long v level bs held s lawful w =
    rw (w.data_is, data_length v level bs w.blocks lawful (λ b h. (w.stand b h).long)) (data_short v level lawful)
