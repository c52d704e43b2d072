-- One segment more: it has room in both buffers, and what the step leaves there is what the front of the stream says.
use mathlib.Core.Path.{◌≡◌, refl, sym, ap, ◌∙◌}
use mathlib.Core.Bool.{Bool, true, false, cond}
use mathlib.Core.List.{List}
use Rattle.std.specs.Prelude.{Err}
use Prim.Native.Nat.{ℕ, ◌+◌, ◌*◌, ◌<◌, ◌≤◌}
use native.Mathlib.Omega.{arith}
use lib.Dec.{leb}
use lib.ListN.{length, take, drop, set}
use lib.Seq.{drop-drop}
use Rattle.basics.specs.Bits.{byte_bits, number}
use Rattle.cursor.specs.Cursor.{field}
use Rattle.cursor.specs.declared.Cursor.{Cursor}
use Rattle.tables.specs.Tables.{count_width, most_payload}
use Rattle.stream.specs.Stream.{body_width}
use Rattle.parse.specs.declared.Progress.{Progress}
use Rattle.parse.specs.declared.Fault as declared
use Rattle.parse.specs.Answer.{fault_number}
use Rattle.parse.specs.Parse.{Refusal, head_width, front, most_data}
use Rattle.parse.specs.Steps.{SegmentFits, BodyAsks, BodyRead, BodyReads, Load, StepAsks, Stepped}
use Rattle.parse.proofs.Front.{known_small, whole_segment}
use Rattle.parse.proofs.Groups.{put_two}
use Rattle.parse.proofs.Heads.{left_bits, field_small, width_small, going, fits_whole, fits_broken}
use Rattle.parse.proofs.Load.{load_more, load_enough}

pub most_small : (v : ℕ) → most_data v ≤ 274
most_small v = at (leb v 9)
  where
    at : (t : Bool) → cond t 232 274 ≤ 274
    at true = omega arith
    at false = omega arith

module _ (codewords : List ℕ) (v : ℕ) (p : Progress) (payload list : List ℕ) (a : StepAsks codewords v p payload list) where
  pub few_codewords : length codewords ≤ 274
  few_codewords = omega (arith, a.short, most_small v)

  module _ (mode count : ℕ) (s : SegmentFits v mode count (drop p.cursor.at (byte_bits codewords))) where
    -- the load with this segment
    load : Load (leb v 9) (p.cursor.at + (4 + count_width v mode + body_width mode count)) (p.used + count) (p.segments + 1)
    load = load_more v mode count p.cursor.at p.used p.segments s.knows a.load

    within : p.cursor.at + (head_width v mode + body_width mode count) ≤ 8 * length codewords
    within = omega (arith, s.holds, left_bits codewords p.cursor.at, going codewords p.cursor.at a.goes)

    enough : (p.used + count ≤ most_payload) × (p.segments + 1 ≤ 154)
    unfolding head_width
    enough = load_enough v (p.cursor.at + (4 + count_width v mode + body_width mode count)) (p.used + count) (p.segments + 1) load (omega (arith, within, a.short))

    pub room_chars : p.used + count ≤ most_payload
    room_chars = enough.0

    pub room_pairs : p.segments + 1 ≤ 154
    room_pairs = enough.1

    pub mode_small : mode < 65536
    mode_small = omega (arith, known_small mode s.knows)

    pub count_small : count < 65536
    unfolding field
    count_small =
        let e : field codewords (p.cursor.at + 4) (count_width v mode) ≡ count
        = ap (λ (bs : List ℕ). number (take (count_width v mode) bs)) (sym (drop-drop 4 p.cursor.at (byte_bits codewords))) ∙ s.counts in
        rw (← e) (field_small codewords (p.cursor.at + 4) (count_width v mode) (width_small v mode))

    module _ (b : ℕ) (e : b ≡ p.cursor.at + head_width v mode) where
      pub body_asks : BodyAsks codewords b mode count p.used (length payload)
      body_asks = record { short = few_codewords; knows = s.knows; holds = omega (arith, within); rooms = omega (arith, room_chars, a.rooms) }

      the_body : drop b (byte_bits codewords) ≡ drop (head_width v mode) (drop p.cursor.at (byte_bits codewords))
      the_body = ap (λ (n : ℕ). drop n (byte_bits codewords)) e ∙ sym (drop-drop (head_width v mode) p.cursor.at (byte_bits codewords))

      pub step_broken : (after : List ℕ) (f : declared.Fault) → BodyReads codewords b mode count p.used payload after (Err f)
          → front v (drop p.cursor.at (byte_bits codewords)) ≡ Refusal (fault_number f)
      step_broken after f d =
          fits_broken v mode count (drop p.cursor.at (byte_bits codewords)) s a.goes (rw the_body at d.0)
          ∙ ap Refusal (sym (ap fault_number d.1))

      pub step_done : (after : List ℕ) (next : Cursor) → BodyRead codewords b mode count p.used payload after next
          → Stepped codewords v p payload list after (set (set list (2 * p.segments) mode) (2 * p.segments + 1) count)
          (record { cursor = next; used = p.used + count; segments = p.segments + 1 })
      step_done after next d = record {
        mode = mode;
        count = count;
        fronts =
            whole_segment v mode count (drop p.cursor.at (byte_bits codewords))
            (fits_whole v mode count (drop p.cursor.at (byte_bits codewords)) s
            (rw the_body at d.ranged));
        place = omega (arith, d.place, e);
        uses = refl;
        more = refl;
        chars = rw the_body at (d.chars);
        lists = put_two list (2 * p.segments) mode count (omega (arith, room_pairs, a.numbers));
      }
