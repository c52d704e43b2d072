-- A drawn symbol is read to what was drawn after any damage within its bounds: each block's own codeword stands for it, so no step refuses,
-- and the data codewords of those codewords are the message's.
use mathlib.Core.Path.{◌≡◌, refl, sym, ap, subst, ◌∙◌}
use mathlib.Core.Logic.{inr, ⊎_elim}
use mathlib.Core.List.{List}
use Prim.Native.Nat.{ℕ, ◌+◌, ◌*◌, ◌≤◌, ◌<◌}
use native.Mathlib.Omega.{arith}
use lib.ListN.{length}
use Rattle.basics.specs.Lists.{AtMost}
use Rattle.basics.specs.Sums.{sum}
use Rattle.basics.proofs.Lists.{length_map_up_to}
use Rattle.tables.specs.Tables
use Rattle.tables.specs.Version.{Square}
use Rattle.code.specs.Code.{Codeword, Stands}
use Rattle.words.specs.Words.{Near, format_word, format_bits, version_word}
use Rattle.words.proofs.Words.{format_only, version_only}
use Rattle.words.proofs.Bits.{format_bits_lt}
use Rattle.parse.specs.Parse.{Message, message}
use Rattle.blocks.specs.Blocks.{gathered, data_of}
use Rattle.modules.specs.Modules.{format_places, version_places}
use Rattle.scan.specs.Received.{copied, readable, received}
use Rattle.writer.specs.Writer.{Request, Drawn, draw}
use Rattle.reader.specs.Reader.{Read, Reads, decided, OtherVersion, TwoFormats, AllStand, FormatStands, block_word, block_flags}
use Rattle.promises.specs.Promises.{Bytes, LargeEnough, wrong, lost, Survives}

-- what a symbol holds that was drawn for a request, given what the crates below show
pub record Holds (r : Request) (v mask : ℕ) (modules : List ℕ) : Type 0 where
  pub lawful : Tables.Lawful v r.level
  pub masks : mask < 8
  pub long : length modules ≡ Tables.side v * Tables.side v
  -- its blocks are codewords, and their data is the message's
  pub codewords : (b : ℕ) → b < Tables.block_count v r.level
      → Codeword (Tables.check_count v r.level) (block_word v r.level (received v mask modules) b)
  pub gives : message v (data_of v r.level (block_word v r.level (received v mask modules))) ≡ Message r.payload r.list
  -- its copies are the words
  pub formats : (copy : ℕ) → copy < 2 → copied modules (format_places v copy) ≡ format_word (format_bits r.level mask)
  pub versions : (copy : ℕ) → copy < 2 → 7 ≤ v → copied modules (version_places v copy) ≡ version_word v

module _ (r : Request) (v mask payload_room list_room : ℕ) (modules m : List ℕ) (h : Holds r v mask modules) (room : LargeEnough payload_room list_room)
    (long : length m ≡ length modules) (values : AtMost 2 m)
    (blocks : (b : ℕ) → b < Tables.block_count v r.level → 2 * wrong v r.level mask modules m b + lost v r.level mask m b ≤ Tables.room v r.level)
  where
    sized : Square (length m) v
    sized = record { least = h.lawful.least; most = h.lawful.most; long = long ∙ h.long }

    -- each block stands for the codeword that was drawn
    stand : (b : ℕ) → b < Tables.block_count v r.level
        → Stands (Tables.check_count v r.level) (Tables.room v r.level) (block_word v r.level (received v mask m) b)
        (block_flags v r.level (received v mask m) b) (block_word v r.level (received v mask modules) b) (wrong v r.level mask modules m b) (lost v r.level mask m b)
    unfolding block_word gathered
    stand b l =
        record {
          codeword = h.codewords b l;
          long = length_map_up_to _ _ ∙ sym (length_map_up_to _ _);
          differs = refl;
          missing = refl;
          near = blocks b l;
        }

    all_stand : AllStand v r.level mask (received v mask m)
        (Read v r.level mask r.payload r.list (sum (Tables.block_count v r.level) (wrong v r.level mask modules m)) (sum (Tables.block_count v r.level) (lost v r.level mask m)))
    all_stand =
        record {
          blocks = block_word v r.level (received v mask modules);
          ts = wrong v r.level mask modules m;
          es = lost v r.level mask m;
          stand = stand;
          gives = sym (ap (decided v r.level mask (sum (Tables.block_count v r.level) (wrong v r.level mask modules m)) (sum (Tables.block_count v r.level) (lost v r.level mask m))) h.gives);
        }

    -- the wider statement: no version copy stands for another version, some format copy stands for what was drawn, and none for another word
    pub survives_wider : (OtherVersion v m → ⊥) → (copy : ℕ) → FormatStands v m copy r.level mask → (TwoFormats v m → ⊥)
        → Reads m payload_room list_room
        (Read v r.level mask r.payload r.list (sum (Tables.block_count v r.level) (wrong v r.level mask modules m)) (sum (Tables.block_count v r.level) (lost v r.level mask m)))
    unfolding Reads
    survives_wider other copy format two =
        inr (
          (λ s. ⊎_elim (λ p. omega (arith, room.payload)) (λ p. omega (arith, room.list)) s),
          inr (
            (λ n. n v sized),
            record {
              version = v;
              sized = sized;
              then =
                  inr (
                    (λ a. omega (arith, values a.0 a.1, a.2)),
                    inr (
                      other,
                      inr (
                        (λ n. n copy r.level mask format),
                        inr (
                          two,
                          record {
                            copy = copy;
                            level = r.level;
                            mask = mask;
                            stands = format;
                            then = inr ((λ n. n.2 _ _ _ (stand n.0 n.1)), all_stand);
                          },
                        ),
                      ),
                    ),
                  );
            },
          ),
        )

-- ---- demand 3 in its own words

module _
    (holds : (r : Request) (out v mask : ℕ) (modules : List ℕ) → Bytes r → draw r out ≡ Drawn v mask modules → Holds r v mask modules)
  where
    pub survives : Survives
    survives r out v mask payload_room list_room modules m bytes room drawn d =
        survives_wider r v mask payload_room list_room modules m h room d.long d.values d.blocks other 0 (format 0 (omega arith)) two
      where
        h : Holds r v mask modules
        h = holds r out v mask modules bytes drawn

        format : (copy : ℕ) → copy < 2 → FormatStands v m copy r.level mask
        format copy l =
            record {
              which = l;
              levels = omega (arith, h.lawful.levels);
              masks = h.masks;
              near = subst (Near 15 (copied m (format_places v copy)) (readable m (format_places v copy))) (h.formats copy l) (d.formats copy l);
            }

        -- a copy stands for the drawn word alone
        alone : (copy l k : ℕ) → FormatStands v m copy l k → format_bits l k ≡ format_bits r.level mask
        alone copy l k s =
            format_only _ _ _ _ (format_bits_lt l k s.levels s.masks) (format_bits_lt r.level mask (omega (arith, h.lawful.levels)) h.masks) s.near
            (format copy s.which).near

        two : TwoFormats v m → ⊥
        two (l₀, k₀, l₁, k₁, s₀, s₁, n) = n (alone 0 l₀ k₀ s₀ ∙ sym (alone 1 l₁ k₁ s₁))

        other : OtherVersion v m → ⊥
        other (copy, x, n, s) =
            n (version_only _ _ x v s.near.least s.near.most s.drawn (omega (arith, h.lawful.most)) s.near.near
            (subst (Near 18 (copied m (version_places v copy)) (readable m (version_places v copy))) (h.versions copy s.which s.drawn) (d.versions copy s.which s.drawn)))
