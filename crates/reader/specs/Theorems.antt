-- What is shown of the reader's answers beside the contract of `read`, each a statement with a name.
use Rattle.std.specs.Prelude.{◌≡◌, ◌↔◌, Result, List, ℕ, ◌≤◌, ◌<◌, length}
use Rattle.basics.specs.Bits.{byte_bits}
use Rattle.tables.specs.Tables.{block_count}
use Rattle.tables.specs.Version.{Square}
use Rattle.parse.specs.Faults.{UnknownMode, RunsPast, BadGroup, FirstFault}
use Rattle.blocks.specs.Blocks.{data_of}
use Rattle.scan.specs.Received.{received}
use Rattle.reader.specs.declared.Reading.{Reading}
use Rattle.reader.specs.declared.Refusal.{Refusal}
use Rattle.reader.specs.Answers.{Answers}
use Rattle.reader.specs.Reader.{Answer, Refused, Reads, Small, NoVersion, Above, OtherVersion, NoFormat, TwoFormats, NoCodeword, FormatStands, BlockStands}

-- every matrix has an answer
abbrev pub ReadsSome : Type 0
ReadsSome = (m : List ℕ) (payload_room list_room : ℕ) → (a : Answer) × Reads m payload_room list_room a

-- and no matrix has two
abbrev pub ReadsOnly : Type 0
ReadsOnly = (m : List ℕ) (payload_room list_room : ℕ) (a b : Answer) → Reads m payload_room list_room a → Reads m payload_room list_room b → a ≡ b

-- no two different answers, nor two contents of memory, satisfy the promise of `read`
abbrev pub AnswersOnly : Type 0
AnswersOnly = (m payload list : List ℕ) (r r₁ : Result Reading Refusal) (payload' payload₁ list' list₁ : List ℕ)
    → Answers m payload list r payload' list' → Answers m payload list r₁ payload₁ list₁ → (r ≡ r₁) × (payload' ≡ payload₁) × (list' ≡ list₁)

-- the reader's numbers are 7 to 16
abbrev pub ReaderNumbers : Type 0
ReaderNumbers = (m : List ℕ) (payload_room list_room k : ℕ) → Reads m payload_room list_room (Refused k) → (7 ≤ k) × (k ≤ 16)

-- ---- each number exactly where the paper says so

-- 16 and 7 are passed: the buffers are large enough, and the length is that of a version
pub record PastSize (m : List ℕ) (payload_room list_room v : ℕ) : Type 0 where
  pub large : Small payload_room list_room → ⊥
  pub square : Square (length m) v

-- .. and 8 and 9
pub record PastVersions (m : List ℕ) (payload_room list_room v : ℕ) : Type 0 where
  pub sized : PastSize m payload_room list_room v
  pub low : Above m → ⊥
  pub same : OtherVersion v m → ⊥

-- .. and 10 and 11: a format copy stands for the level and the mask
pub record PastFormats (m : List ℕ) (payload_room list_room v level mask : ℕ) : Type 0 where
  pub plain : PastVersions m payload_room list_room v
  pub copy : ℕ
  pub stands : FormatStands v m copy level mask
  pub one : TwoFormats v m → ⊥

-- .. and 12: every block stands for a codeword, and the first fault in the stream of their data is such a one
pub record StreamFaulty (v level : ℕ) (bs : List ℕ) (Faulty : List ℕ → Type 0) : Type 0 where
  pub blocks : ℕ → List ℕ
  pub ts : ℕ → ℕ
  pub es : ℕ → ℕ
  pub stand : (b : ℕ) → b < block_count v level → BlockStands v level bs b (blocks b) (ts b) (es b)
  pub fault : FirstFault v Faulty (byte_bits (data_of v level blocks))

pub record RefusedWith (m : List ℕ) (payload_room list_room : ℕ) : Type 0 where
  pub sixteen : Reads m payload_room list_room (Refused 16) ↔ Small payload_room list_room
  pub seven : Reads m payload_room list_room (Refused 7) ↔ ((Small payload_room list_room → ⊥) × NoVersion m)
  pub eight : Reads m payload_room list_room (Refused 8) ↔ ((v : ℕ) × PastSize m payload_room list_room v × Above m)
  pub nine : Reads m payload_room list_room (Refused 9) ↔ ((v : ℕ) × PastSize m payload_room list_room v × (Above m → ⊥) × OtherVersion v m)
  pub ten : Reads m payload_room list_room (Refused 10) ↔ ((v : ℕ) × PastVersions m payload_room list_room v × NoFormat v m)
  pub eleven : Reads m payload_room list_room (Refused 11) ↔ ((v : ℕ) × PastVersions m payload_room list_room v × TwoFormats v m)
  pub twelve : Reads m payload_room list_room (Refused 12)
      ↔ ((v : ℕ) × (level : ℕ) × (mask : ℕ) × PastFormats m payload_room list_room v level mask × NoCodeword v level (received v mask m))
  pub thirteen : Reads m payload_room list_room (Refused 13)
      ↔ ((v : ℕ) × (level : ℕ) × (mask : ℕ) × PastFormats m payload_room list_room v level mask × StreamFaulty v level (received v mask m) UnknownMode)
  pub fourteen : Reads m payload_room list_room (Refused 14)
      ↔ ((v : ℕ) × (level : ℕ) × (mask : ℕ) × PastFormats m payload_room list_room v level mask × StreamFaulty v level (received v mask m) (RunsPast v))
  pub fifteen : Reads m payload_room list_room (Refused 15)
      ↔ ((v : ℕ) × (level : ℕ) × (mask : ℕ) × PastFormats m payload_room list_room v level mask × StreamFaulty v level (received v mask m) (BadGroup v))

abbrev pub ReadsRefused : Type 0
ReadsRefused = (m : List ℕ) (payload_room list_room : ℕ) → RefusedWith m payload_room list_room
