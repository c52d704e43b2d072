-- What each step of the reader answers: what it read, or its refusal, since its fault is there.
use Rattle.std.specs.Prelude.{◌≡◌, ◌≢◌, ◌⊎◌, Result, Ok, Err, List, ℕ, ◌<◌, length}
use Rattle.basics.specs.Lists.{AtMost}
use Rattle.basics.specs.Sums as S
use Rattle.tables.specs.Tables.{room, total, block_count, check_count}
use Rattle.tables.specs.Version.{Square}
use Rattle.code.specs.Code.{Stands, differing, unreadable}
use Rattle.blocks.specs.Blocks.{block_of, data_of}
use Rattle.corrector.specs.declared.Counts.{Counts}
use Rattle.reader.specs.declared.Meta.{Meta}
use Rattle.reader.specs.declared.Refusal.{Refusal}
use Rattle.reader.specs.declared.Refusal.TheVariants as refused
use Rattle.reader.specs.Reader.{NoVersion, Above, VersionStands, OtherVersion, FormatStands, NoFormat, TwoFormats, NoCodeword, BlockStands, block_word, block_flags}

-- 7: "matrix length is not s·s for a version 1 to 10"
abbrev pub SideRead : (m : List ℕ) → Result ℕ Refusal → Type 0
SideRead m (Ok v) = Square (length m) v
SideRead m (Err r) = (r ≡ refused.NoVersion) × NoVersion m

-- 8: "a module above 2"
abbrev pub ModulesRead : (m : List ℕ) → Result (Unit {0}) Refusal → Type 0
ModulesRead m (Ok u) = AtMost 2 m
ModulesRead m (Err r) = (r ≡ refused.AboveTwo) × Above m

-- 9, for one copy of the version word
abbrev pub VersionCopy : (v : ℕ) (m : List ℕ) (copy : ℕ) → Result (Unit {0}) Refusal → Type 0
VersionCopy v m copy (Ok u) = (x : ℕ) → x ≢ v → VersionStands v m copy x → ⊥
VersionCopy v m copy (Err r) = (r ≡ refused.OtherVersion) × ((x : ℕ) × (x ≢ v) × VersionStands v m copy x)

-- 9: "a version copy stands for another version"
abbrev pub VersionsRead : (v : ℕ) (m : List ℕ) → Result (Unit {0}) Refusal → Type 0
VersionsRead v m (Ok u) = OtherVersion v m → ⊥
VersionsRead v m (Err r) = (r ≡ refused.OtherVersion) × OtherVersion v m

-- a format copy stands for the level and the mask, and the two stand for no different words
pub record FormatRead (v : ℕ) (m : List ℕ) (meta : Meta) : Type 0 where
  pub copy : ℕ
  pub stands : FormatStands v m copy meta.level meta.mask
  pub one : TwoFormats v m → ⊥

-- 10: "neither format copy stands for anything"; 11: "the format copies stand for different words"
abbrev pub FormatsRead : (v : ℕ) (m : List ℕ) → Result Meta Refusal → Type 0
FormatsRead v m (Ok meta) = FormatRead v m meta
FormatsRead v m (Err r) =
    ((r ≡ refused.NoFormat) × NoFormat v m) ⊎ ((r ≡ refused.TwoFormats) × (NoFormat v m → ⊥) × TwoFormats v m)

-- the codewords as they were received and their flags, block after block
pub record Collected (v level : ℕ) (bs words flags : List ℕ) : Type 0 where
  pub words_long : length words ≡ total v
  pub flags_long : length flags ≡ total v
  pub words_of : (b : ℕ) → b < block_count v level → block_of v level words b ≡ block_word v level bs b
  pub flags_of : (b : ℕ) → b < block_count v level → block_of v level flags b ≡ block_flags v level bs b

-- block b of the words, with its flags, stands for a codeword
abbrev pub Standing : (v level : ℕ) (words flags : List ℕ) (b : ℕ) (c : List ℕ) (t e : ℕ) → Type 0
Standing v level words flags b c t e = Stands (check_count v level) (room v level) (block_of v level words b) (block_of v level flags b) c t e

-- the readable codewords of block b that differ, and the unreadable ones
abbrev pub wrong_in : (v level : ℕ) (words flags mended : List ℕ) (b : ℕ) → ℕ
wrong_in v level words flags mended b = differing (block_of v level words b) (block_of v level flags b) (block_of v level mended b)

abbrev pub lost_in : (v level : ℕ) (flags : List ℕ) (b : ℕ) → ℕ
lost_in v level flags b = unreadable (block_of v level flags b)

-- every block holds the codeword that it stands for, and the sums are the counts
pub record AllMended (v level : ℕ) (words flags mended : List ℕ) (s : Counts) : Type 0 where
  pub long : length mended ≡ length words
  pub stand : (b : ℕ) → b < block_count v level
      → Standing v level words flags b (block_of v level mended b) (wrong_in v level words flags mended b) (lost_in v level flags b)
  pub differing_sum : s.differing ≡ S.sum (block_count v level) (wrong_in v level words flags mended)
  pub unreadable_sum : s.unreadable ≡ S.sum (block_count v level) (lost_in v level flags)

-- 12: "a block has no codeword within its bound"
abbrev pub BlocksMended : (v level : ℕ) (words flags mended : List ℕ) → Result Counts Refusal → Type 0
BlocksMended v level words flags mended (Ok s) = AllMended v level words flags mended s
BlocksMended v level words flags mended (Err r) =
    (r ≡ refused.NoCodeword)
    × ((b : ℕ) × (b < block_count v level) × ((c : List ℕ) (t e : ℕ) → Standing v level words flags b c t e → ⊥))

-- every block stands for its codeword; their data codewords, and the sums of the counts
pub record WithinBounds (v level : ℕ) (bs held : List ℕ) (s : Counts) : Type 0 where
  pub blocks : ℕ → List ℕ
  pub ts : ℕ → ℕ
  pub es : ℕ → ℕ
  pub stand : (b : ℕ) → b < block_count v level → BlockStands v level bs b (blocks b) (ts b) (es b)
  pub data_is : held ≡ data_of v level blocks
  pub differing_sum : s.differing ≡ S.sum (block_count v level) ts
  pub unreadable_sum : s.unreadable ≡ S.sum (block_count v level) es

-- 12: "a block has no codeword within its bound"
abbrev pub DataMended : (v level : ℕ) (bs held : List ℕ) → Result Counts Refusal → Type 0
DataMended v level bs held (Ok s) = WithinBounds v level bs held s
DataMended v level bs held (Err r) = (r ≡ refused.NoCodeword) × NoCodeword v level bs
