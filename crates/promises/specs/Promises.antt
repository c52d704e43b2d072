-- What holds of writer and reader together, each demand as a statement with a name.
use Rattle.std.specs.Prelude.{◌≡◌, ◌≢◌, true, ℕ, zero, suc, ◌+◌, ◌-◌, ◌*◌, ◌/◌, ◌≤◌, ◌<◌, length, get_or, take}
use mathlib.Core.List.{List, [], ◌∷◌, Memᴰ}
use Rattle.basics.specs.Lists.{AtMost}
use Rattle.basics.specs.Sums.{sum}
use Rattle.tables.specs.Tables
use Rattle.code.specs.Code.{differing, unreadable}
use Rattle.words.specs.Words.{Near}
use Rattle.stream.specs.Stream.{LawfulMessage, lawful_list, fits}
use Rattle.modules.specs.Modules.{order, format_places, version_places}
use Rattle.scan.specs.Received.{copied, readable, received}
use Rattle.writer.specs.Writer.{Request, request, Drawn, draw, refusal}
use Rattle.writer.specs.Writer
use Rattle.reader.specs.Reader.{Answer, Read, Reads, BlockStands, block_word, block_flags}

-- a payload of bytes, as the caller's types have it
abbrev pub Bytes : Request → Type 0
Bytes r = AtMost 255 r.payload

-- buffers that the reader does not refuse
pub record LargeEnough (payload_room list_room : ℕ) : Type 0 where
  pub payload : Tables.most_payload ≤ payload_room
  pub list : Tables.most_list ≤ list_room

-- ---- demand 2

-- "The reader gives back the same payload and segments from that symbol": with version, level and mask, and both sums 0
abbrev pub ReadBack : Type 0
ReadBack = (r : Request) (out v mask payload_room list_room : ℕ) (modules : List ℕ) → Bytes r → LargeEnough payload_room list_room
    → draw r out ≡ Drawn v mask modules → Reads modules payload_room list_room (Read v r.level mask r.payload r.list 0 0)

-- ---- demand 3

-- the readable codewords of block b that differ from what was drawn, and the unreadable ones
abbrev pub wrong : (v level mask : ℕ) (modules m : List ℕ) (b : ℕ) → ℕ
wrong v level mask modules m b =
    differing (block_word v level (received v mask m) b) (block_flags v level (received v mask m) b) (block_word v level (received v mask modules) b)

abbrev pub lost : (v level mask : ℕ) (m : List ℕ) (b : ℕ) → ℕ
lost v level mask m b = unreadable (block_flags v level (received v mask m) b)

-- a copy of a word of k bits, at these places, is within its bound of what was drawn
abbrev pub CopyKept : (k : ℕ) (places modules m : List ℕ) → Type 0
CopyKept k places modules m = Near k (copied m places) (readable m places) (copied modules places)

-- "any damage that leaves modules light, dark or unreadable and keeps every block, and every format and version copy, within its bound of what was drawn"
pub record Damaged (v level mask : ℕ) (modules m : List ℕ) : Type 0 where
  pub long : length m ≡ length modules
  pub values : AtMost 2 m
  pub formats : (copy : ℕ) → copy < 2 → CopyKept 15 (format_places v copy) modules m
  pub versions : (copy : ℕ) → copy < 2 → 7 ≤ v → CopyKept 18 (version_places v copy) modules m
  pub blocks : (b : ℕ) → b < Tables.block_count v level → 2 * wrong v level mask modules m b + lost v level mask m b ≤ Tables.room v level

-- "given large enough buffers, a drawn symbol still gives its version, level, mask, payload and segments after" it; the sums are the counts
abbrev pub Survives : Type 0
Survives = (r : Request) (out v mask payload_room list_room : ℕ) (modules m : List ℕ) → Bytes r → LargeEnough payload_room list_room
    → draw r out ≡ Drawn v mask modules → Damaged v r.level mask modules m
    → Reads m payload_room list_room
    (Read v r.level mask r.payload r.list (sum (Tables.block_count v r.level) (wrong v r.level mask modules m))
    (sum (Tables.block_count v r.level) (lost v r.level mask m)))

-- ---- beyond the bound

-- a block of a drawn symbol, read at the drawn level and mask, that stands for another codeword than was drawn: at least n + 1 − floor((room − e)/2) of its
-- codewords are wrong or lost
abbrev pub DrawnMisread : Type 0
DrawnMisread = (r : Request) (out v mask : ℕ) (modules m : List ℕ) (b : ℕ) (c : List ℕ) (t e : ℕ) → Bytes r → draw r out ≡ Drawn v mask modules
    → b < Tables.block_count v r.level → BlockStands v r.level (received v mask m) b c t e → c ≢ block_word v r.level (received v mask modules) b
    → Tables.check_count v r.level + 1 ≤ wrong v r.level mask modules m b + lost v r.level mask m b + (Tables.room v r.level - e) / 2

-- ---- "two matrices of one side that agree on data, format and version modules, the surplus left out, get the same answer"

-- the two agree on each place of the list
abbrev pub Agree : (a b places : List ℕ) → Type 0
Agree a b places = (p : ℕ) → Memᴰ p places → get_or a p 0 ≡ get_or b p 0

pub record SameWhere (v : ℕ) (a b : List ℕ) : Type 0 where
  pub data_modules : Agree a b (take (8 * Tables.total v) (order v))
  pub format_modules : (copy : ℕ) → copy < 2 → Agree a b (format_places v copy)
  pub version_modules : (copy : ℕ) → copy < 2 → Agree a b (version_places v copy)

abbrev pub SameModules : Type 0
SameModules = (v : ℕ) (a b : List ℕ) (payload_room list_room : ℕ) (x : Answer)
    → length a ≡ Tables.side v * Tables.side v → length b ≡ Tables.side v * Tables.side v → AtMost 2 a → AtMost 2 b
    → SameWhere v a b → Reads a payload_room list_room x → Reads b payload_room list_room x

-- ---- what is read is a lawful message that fits the caller's buffers

pub record LawfulReading (v level mask : ℕ) (payload list : List ℕ) (t e : ℕ) : Type 0 where
  pub lawful : Tables.Lawful v level
  pub masks : mask < 8
  pub message : LawfulMessage v level payload list
  -- "652 digits is the most that 10-L holds; 154 empty byte segments is the longest list (9-L)"
  pub payload_most : length payload ≤ Tables.most_payload
  pub list_most : length list ≤ Tables.most_list
  -- no block's count passes its checks, and no version has more than eight blocks
  pub differing_most : t ≤ Tables.most_checks * Tables.most_blocks
  pub unreadable_most : e ≤ Tables.most_checks * Tables.most_blocks

abbrev pub ReadsLawful : Type 0
ReadsLawful = (m : List ℕ) (payload_room list_room v level mask t e : ℕ) (payload list : List ℕ)
    → Reads m payload_room list_room (Read v level mask payload list t e) → LawfulReading v level mask payload list t e

-- ---- "652 digits is the most that 10-L holds; 154 empty byte segments is the longest list (9-L)"

-- so many empty byte segments
unfoldable pub empty_segments : ℕ → List ℕ
empty_segments zero = []
empty_segments (suc n) = 4 ∷ 0 ∷ empty_segments n

pub record LongestList : Type 0 where
  -- 154 are drawn at 9-L
  pub reached : (out mask : ℕ) → mask ≤ 8 → Tables.side 9 * Tables.side 9 ≤ out → refusal (request [] (empty_segments 154) 0 9 mask) out ≡ 0
  -- 154 segments, of any modes and counts, fit at 9-L alone
  pub alone : (v level : ℕ) (list : List ℕ) → Tables.Lawful v level → lawful_list list ≡ true → fits v level list ≡ true
      → length list ≡ 2 * 154 → (v ≡ 9) × (level ≡ 0)
  -- no request with more segments, or with more than 652 characters, is drawn
  pub most : (r : Request) (out : ℕ) → refusal r out ≡ 0 → (length r.payload ≤ Tables.most_payload) × (length r.list ≤ 2 * 154)

-- ---- demand 1

-- a request is drawn exactly where no check refuses it, and refused with the first that does
pub record Draws (r : Request) (out : ℕ) : Type 0 where
  pub drawn : refusal r out ≡ 0 → (v : ℕ) × (mask : ℕ) × (modules : List ℕ) × (draw r out ≡ Drawn v mask modules)
  pub denied : (n : ℕ) → refusal r out ≡ suc n → draw r out ≡ Writer.Refused (suc n)

abbrev pub DrawsAll : Type 0
DrawsAll = (r : Request) (out : ℕ) → Draws r out
