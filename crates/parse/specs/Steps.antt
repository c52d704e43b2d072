-- What each step of the reading is asked and answers. Where a step is refused, memory is of no account: the steps fill buffers of their own.
use Rattle.std.specs.Prelude.{◌≡◌, Result, Ok, Err, Bool, true, false, cond, ◌⊎◌, List, [], ◌∷◌, ◌++◌, ℕ, ◌+◌, ◌*◌, ◌≤◌, leb, length, take, drop}
use Rattle.basics.specs.Bits.{byte_bits, number}
use Rattle.cursor.specs.declared.Cursor.{Cursor}
use Rattle.tables.specs.Tables.{count_width, most_payload, most_list}
use Rattle.stream.specs.Stream.{known, body_width}
use Rattle.parse.specs.declared.Progress.{Progress}
use Rattle.parse.specs.declared.Head.{Head}
use Rattle.parse.specs.declared.Sizes.{Sizes}
use Rattle.parse.specs.declared.Fault as declared
use Rattle.parse.specs.declared.Fault.TheVariants.{OutOfRange}
use Rattle.parse.specs.Answer.{fault_number}
use Rattle.parse.specs.Parse.{characters, groups_in_range, head_width, Segment, Refusal, ends, front, most_data, Message, Fault, message}

-- ---- a segment's head

-- it stands whole: a mode that is known, a count field and a body that do not run past the bits
pub record SegmentFits (v mode count : ℕ) (bs : List ℕ) : Type 0 where
  pub modes : number (take 4 bs) ≡ mode
  pub counts : number (take (count_width v mode) (drop 4 bs)) ≡ count
  pub knows : known mode ≡ true
  pub holds : head_width v mode + body_width mode count ≤ length bs

-- mode, count and the cursor at the body; or what stands at the front is a refusal
abbrev pub HeadReads : (codewords : List ℕ) (v at : ℕ) → Result Head declared.Fault → Type 0
HeadReads codewords v at (Ok h) = SegmentFits v h.mode h.count (drop at (byte_bits codewords)) × (h.body.at ≡ at + head_width v h.mode)
HeadReads codewords v at (Err f) = front v (drop at (byte_bits codewords)) ≡ Refusal (fault_number f)

-- ---- a body

-- it stands whole in the codewords, and its characters have room
pub record BodyAsks (codewords : List ℕ) (at mode count used room : ℕ) : Type 0 where
  pub short : length codewords ≤ 274
  pub knows : known mode ≡ true
  pub holds : at + body_width mode count ≤ 8 * length codewords
  pub rooms : used + count ≤ room

-- every group is in range: its characters stand after those used, and the cursor past it
pub record BodyRead (codewords : List ℕ) (at mode count used : ℕ) (payload after : List ℕ) (c : Cursor) : Type 0 where
  pub ranged : groups_in_range mode count (drop at (byte_bits codewords)) ≡ true
  pub chars : take (used + count) after ≡ take used payload ++ characters mode count (drop at (byte_bits codewords))
  pub place : c.at ≡ at + body_width mode count

-- or a group is out of range
abbrev pub BodyReads : (codewords : List ℕ) (at mode count used : ℕ) (payload after : List ℕ) → Result Cursor declared.Fault → Type 0
BodyReads codewords at mode count used payload after (Ok c) = BodyRead codewords at mode count used payload after c
BodyReads codewords at mode count used payload after (Err f) = (groups_in_range mode count (drop at (byte_bits codewords)) ≡ false) × (f ≡ OutOfRange)

-- ---- one segment

-- so many bits hold so many characters in so many segments; t where the version is 9 or less
pub record Load (t : Bool) (bs chars segs : ℕ) : Type 0 where
  pub some : (chars ≡ 0) ⊎ (10 * chars + 3 * cond t 14 16 ≤ 3 * bs)
  pub heads : cond t 12 15 * segs ≤ bs

-- the stream goes on at the cursor, and buffers of the paper's sizes hold what the bits before it hold
pub record StepAsks (codewords : List ℕ) (v : ℕ) (p : Progress) (payload list : List ℕ) : Type 0 where
  pub short : length codewords ≤ most_data v
  pub goes : ends (drop p.cursor.at (byte_bits codewords)) ≡ false
  pub load : Load (leb v 9) p.cursor.at p.used p.segments
  pub rooms : most_payload ≤ length payload
  pub numbers : most_list ≤ length list

-- the segment's characters stand after those used, its mode and count after the segments before it, and the cursor past it
pub record Stepped (codewords : List ℕ) (v : ℕ) (p : Progress) (payload list payload' list' : List ℕ) (q : Progress) : Type 0 where
  pub mode : ℕ
  pub count : ℕ
  pub fronts : front v (drop p.cursor.at (byte_bits codewords)) ≡ Segment mode count
  pub place : q.cursor.at ≡ p.cursor.at + (head_width v mode + body_width mode count)
  pub uses : q.used ≡ p.used + count
  pub more : q.segments ≡ p.segments + 1
  pub chars : take (p.used + count) payload'
      ≡ take p.used payload ++ characters mode count (drop (head_width v mode) (drop p.cursor.at (byte_bits codewords)))
  pub lists : take (2 * p.segments + 2) list' ≡ take (2 * p.segments) list ++ (mode ∷ count ∷ [])

abbrev pub StepReads : (codewords : List ℕ) (v : ℕ) (p : Progress) (payload list payload' list' : List ℕ) → Result Progress declared.Fault → Type 0
StepReads codewords v p payload list payload' list' (Ok q) = Stepped codewords v p payload list payload' list' q
StepReads codewords v p payload list payload' list' (Err f) = front v (drop p.cursor.at (byte_bits codewords)) ≡ Refusal (fault_number f)

-- ---- all segments

-- the message stands at the fronts of both buffers; or the first fault
abbrev pub FillReads : (codewords : List ℕ) (v : ℕ) (payload list : List ℕ) → Result Sizes declared.Fault → Type 0
FillReads codewords v payload list (Ok s) =
    (message v codewords ≡ Message (take s.payload payload) (take (2 * s.segments) list)) × (s.payload ≤ most_payload) × (s.segments ≤ 154)
FillReads codewords v payload list (Err f) = message v codewords ≡ Fault (fault_number f)
