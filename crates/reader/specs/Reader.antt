-- The answer that a matrix gets. It is a relation: a block stands for a codeword, and nothing here searches for it.
use Rattle.std.specs.Prelude.{◌≡◌, ◌≢◌, ◌⊎◌, List, ◌++◌, ℕ, ◌≤◌, ◌<◌, length, get_or, drop}
use Rattle.basics.specs.Sums.{sum}
use Rattle.tables.specs.Tables.{room, block_count, check_count, most_payload, most_list}
use Rattle.tables.specs.Version.{Square}
use Rattle.code.specs.Code.{Stands}
use Rattle.words.specs.Words.{format_word, format_bits, Near}
use Rattle.words.specs.Found.{VersionNear}
use Rattle.parse.specs.Parse.{Parsed, Message, Fault, message}
use Rattle.blocks.specs.Blocks.{gathered, data_of}
use Rattle.modules.specs.Modules.{format_places, version_places}
use Rattle.scan.specs.Received.{copied, readable, received, flag, codeword}

-- ---- words

-- copy 0 or 1 of the format word stands for a level and a mask
pub record FormatStands (v : ℕ) (m : List ℕ) (copy level mask : ℕ) : Type 0 where
  pub which : copy < 2
  pub levels : level < 4
  pub masks : mask < 8
  pub near : Near 15 (copied m (format_places v copy)) (readable m (format_places v copy)) (format_word (format_bits level mask))

-- copy 0 or 1 of the version word stands for a version; "Drawn from version 7 on"
pub record VersionStands (v : ℕ) (m : List ℕ) (copy x : ℕ) : Type 0 where
  pub which : copy < 2
  pub drawn : 7 ≤ v
  pub near : VersionNear (copied m (version_places v copy)) (readable m (version_places v copy)) x

-- ---- blocks

-- block b as it was read
unfoldable pub block_word : (v level : ℕ) (bs : List ℕ) (b : ℕ) → List ℕ
block_word v level bs b = gathered v level (codeword bs) b

unfoldable pub block_flags : (v level : ℕ) (bs : List ℕ) (b : ℕ) → List ℕ
block_flags v level bs b = gathered v level (flag bs) b

-- block b stands for a codeword with t and e
abbrev pub BlockStands : (v level : ℕ) (bs : List ℕ) (b : ℕ) (c : List ℕ) (t e : ℕ) → Type 0
BlockStands v level bs b c t e = Stands (check_count v level) (room v level) (block_word v level bs b) (block_flags v level bs b) c t e

-- ---- the answer

-- "Its answer: version, level, mask, payload length, number of segments, and over all blocks the sum of t and the sum of e": with the payload and the list
pub data Answer : Type 0 where
  Read : (version level mask : ℕ) (payload list : List ℕ) (t e : ℕ) → Answer
  Refused : ℕ → Answer

-- what the stream decides, once every block stands
abbrev pub decided : (v level mask t e : ℕ) → Parsed → Answer
decided v level mask t e (Message payload list) = Read v level mask payload list t e
decided v level mask t e (Fault n) = Refused n

-- "the first fault decides"
abbrev pub First : (fault : Type 0) (n : ℕ) (a : Answer) (later : Type 0) → Type 0
First fault n a later = (fault × (a ≡ Refused n)) ⊎ ((fault → ⊥) × later)

-- ---- the faults, in the order of the reader's checks

-- 16: "payload buffer under 652 bytes or segment buffer under 308 numbers"
abbrev pub Small : (payload_room list_room : ℕ) → Type 0
Small payload_room list_room = (payload_room < most_payload) ⊎ (list_room < most_list)

-- 7: "matrix length is not s·s for a version 1 to 10"
abbrev pub NoVersion : List ℕ → Type 0
NoVersion m = (v : ℕ) → Square (length m) v → ⊥

-- 8: "a module above 2"
abbrev pub Above : List ℕ → Type 0
Above m = (p : ℕ) × (p < length m) × (2 < get_or m p 0)

-- 9: "a version copy stands for another version"
abbrev pub OtherVersion : (v : ℕ) → List ℕ → Type 0
OtherVersion v m = (copy : ℕ) × (x : ℕ) × (x ≢ v) × VersionStands v m copy x

-- 10: "neither format copy stands for anything"
abbrev pub NoFormat : (v : ℕ) → List ℕ → Type 0
NoFormat v m = (copy level mask : ℕ) → FormatStands v m copy level mask → ⊥

-- 11: "the format copies stand for different words"
abbrev pub TwoFormats : (v : ℕ) → List ℕ → Type 0
TwoFormats v m =
    (l₀ : ℕ) × (m₀ : ℕ) × (l₁ : ℕ) × (m₁ : ℕ) × FormatStands v m 0 l₀ m₀ × FormatStands v m 1 l₁ m₁ × (format_bits l₀ m₀ ≢ format_bits l₁ m₁)

-- 12: "a block has no codeword within its bound"
abbrev pub NoCodeword : (v level : ℕ) (bs : List ℕ) → Type 0
NoCodeword v level bs = (b : ℕ) × (b < block_count v level) × ((c : List ℕ) (t e : ℕ) → BlockStands v level bs b c t e → ⊥)

-- ---- the rule

-- every block stands for its codeword, and then the stream decides
pub record AllStand (v level mask : ℕ) (bs : List ℕ) (a : Answer) : Type 0 where
  pub blocks : ℕ → List ℕ
  pub ts : ℕ → ℕ
  pub es : ℕ → ℕ
  pub stand : (b : ℕ) → b < block_count v level → BlockStands v level bs b (blocks b) (ts b) (es b)
  pub gives : a ≡ decided v level mask (sum (block_count v level) ts) (sum (block_count v level) es) (message v (data_of v level blocks))

-- a format copy stands for the level and the mask
pub record Formatted (v : ℕ) (m : List ℕ) (a : Answer) : Type 0 where
  pub copy : ℕ
  pub level : ℕ
  pub mask : ℕ
  pub stands : FormatStands v m copy level mask
  pub then : First (NoCodeword v level (received v mask m)) 12 a (AllStand v level mask (received v mask m) a)

-- "side length fixes the version"
pub record Versioned (m : List ℕ) (a : Answer) : Type 0 where
  pub version : ℕ
  pub sized : Square (length m) version
  pub then : First (Above m) 8 a (First (OtherVersion version m) 9 a (First (NoFormat version m) 10 a (First (TwoFormats version m) 11 a (Formatted version m a))))

-- "the reader checks 16 first, then 7 to 12, then the stream from its front, where the first fault decides"
unfoldable pub Reads : (m : List ℕ) (payload_room list_room : ℕ) (a : Answer) → Type 0
Reads m payload_room list_room a = First (Small payload_room list_room) 16 a (First (NoVersion m) 7 a (Versioned m a))

-- ---- what memory holds then

-- "It writes only that many bytes and pairs"; on a refusal, "Output memory is unchanged, also when later segments fail"
abbrev pub payload_after : Answer → (payload : List ℕ) → List ℕ
payload_after (Read v level mask payload list t e) before = payload ++ drop (length payload) before
payload_after (Refused n) before = before

abbrev pub list_after : Answer → (list : List ℕ) → List ℕ
list_after (Read v level mask payload list t e) before = list ++ drop (length list) before
list_after (Refused n) before = before
