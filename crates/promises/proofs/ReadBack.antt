-- What the writer draws holds the message that was asked for, so it reads back, and survives any damage within its bounds.
use mathlib.Core.Path.{◌≡◌, refl, sym, ap, subst, subst₂, ◌∙◌}
use mathlib.Core.Logic.{by_cases}
use mathlib.Core.Bool.{Bool, true, false}
use mathlib.Core.List.{List}
use Prim.Native.Nat.{ℕ, ◌<◌}
use native.Mathlib.Decide.{ℕ_discrete}
use native.Mathlib.Omega.{arith}
use lib.ListN.{length}
use Rattle.basics.specs.Lists.{AtMost}
use Rattle.basics.proofs.Sums.{sum_zero}
use Rattle.tables.specs.Tables
use Rattle.stream.specs.Stream.{LawfulMessage, data_codewords, lawful_list, counts, lawful_characters, fits}
use Rattle.stream.proofs.Codewords.{stream_length}
use Rattle.parse.proofs.Encode.{parse_encode}
use Rattle.parse.specs.Parse.{message}
use Rattle.modules.proofs.Geometry.{symbol_length}
use Rattle.blocks.specs.Blocks.{sent}
use Rattle.code.specs.Code.{Codeword}
use Rattle.scan.specs.Received.{received}
use Rattle.writer.specs.Writer.{Request, Drawn, draw, codewords}
use Rattle.writer.specs.Promise.{DrawnRule}
use Rattle.writer.proofs.Drawn.{Sound, sound, drawn_sound, drawn_rules, drawn_modules}
use Rattle.writer.proofs.Faults.{list_faulty, characters_faulty}
use Rattle.writer.proofs.Fit.{fit_rule}
use Rattle.reader.specs.Reader.{Read, Reads, block_word, block_flags}
use Rattle.promises.specs.Promises.{Bytes, Damaged, Survives, ReadBack, lost}
use Rattle.promises.proofs.Damage.{Holds}
use Rattle.promises.proofs.Damage as kept
use Rattle.promises.proofs.Drawn.{block_codeword, word_dealt, data_dealt, formats_dealt, versions_dealt, none_lost, none_wrong, format_kept, version_kept}

-- a test that never fails passes
pub passes : (b : Bool) → (b ≡ false → ⊥) → b ≡ true
passes true h = refl
passes false h = absurd (h refl)

module _ (r : Request) (out v mask : ℕ) (modules : List ℕ) (bytes : Bytes r) (drawn : draw r out ≡ Drawn v mask modules) where
  rule : DrawnRule r v mask modules
  rule = drawn_rules r out v mask modules drawn

  s : Sound r out
  s = sound r out (drawn_sound r out v mask modules drawn).0

  -- what was asked for is a lawful message that fits
  pub drawn_message : LawfulMessage v r.level r.payload r.list
  drawn_message =
      record {
        bytes = bytes;
        modes = passes (lawful_list r.list) (λ f. s.modes (list_faulty r.list f));
        sums = by_cases (ℕ_discrete (counts r.list) (length r.payload)) (λ e. e) (λ n. absurd (s.sums n));
        characters = passes (lawful_characters r.list r.payload) (λ f. s.characters (characters_faulty r.list r.payload f));
        fit = subst (λ (w : ℕ). fits w r.level r.list ≡ true) (sym rule.version)
            ((fit_rule r.level r.version r.list).takes (λ z. omega (arith, rule.version, rule.lawful.least)));
      }

  held : List ℕ
  held = data_codewords v r.level r.list r.payload

  pub holds : Holds r v mask modules
  unfolding codewords held
  holds =
      subst (Holds r v mask) (sym rule.drawing)
      (record {
        lawful = rule.lawful;
        masks = rule.masks;
        long = symbol_length v rule.lawful.least rule.lawful.most r.level mask (sent v r.level held);
        codewords = λ b h. subst (Codeword (Tables.check_count v r.level)) (sym (word_dealt v r.level mask held rule.lawful rule.masks l.0 l.1 b h)) (block_codeword v r.level mask held rule.lawful rule.masks l.0 l.1 b);
        gives = ap (message v) (data_dealt v r.level mask held rule.lawful rule.masks l.0 l.1) ∙ parse_encode v r.level r.payload r.list rule.lawful drawn_message;
        formats = formats_dealt v r.level mask held rule.lawful rule.masks l.0 l.1;
        versions = versions_dealt v r.level mask held rule.lawful rule.masks l.0 l.1;
      })
    where
      l : (length held ≡ Tables.data_count v r.level) × AtMost 255 held
      l = stream_length v r.level r.payload r.list rule.lawful drawn_message

  -- the symbol itself is within its bounds, and nothing in it is wrong or lost
  pub drawn_lost : (b : ℕ) → b < Tables.block_count v r.level → lost v r.level mask modules b ≡ 0
  unfolding codewords held
  drawn_lost b h =
      subst (λ (m : List ℕ). lost v r.level mask m b ≡ 0) (sym rule.drawing) (none_lost v r.level mask held rule.lawful rule.masks l.0 l.1 b h)
    where
      l : (length held ≡ Tables.data_count v r.level) × AtMost 255 held
      l = stream_length v r.level r.payload r.list rule.lawful drawn_message

  pub undamaged : Damaged v r.level mask modules modules
  undamaged =
      record {
        long = refl;
        values = λ i h. omega (arith, low i h);
        formats = λ copy h. format_kept v copy modules low;
        versions = λ copy h d. version_kept v copy modules d low;
        blocks = λ b h. rw (none_wrong (block_word v r.level (received v mask modules) b) (block_flags v r.level (received v mask modules) b), drawn_lost b h) (omega arith);
      }
    where
      low : AtMost 1 modules
      low = (drawn_modules r out v mask modules drawn).1

pub damage : Survives
damage = kept.survives holds

pub read_back : ReadBack
read_back r out v mask payload_room list_room modules bytes room drawn =
    subst₂ (λ (t e : ℕ). Reads modules payload_room list_room (Read v r.level mask r.payload r.list t e))
    (sum_zero _ _ (λ b h. none_wrong _ _)) (sum_zero _ _ (λ b h. drawn_lost r out v mask modules bytes drawn b h))
    (damage r out v mask payload_room list_room modules modules bytes room drawn (undamaged r out v mask modules bytes drawn))
