-- The symbol file, and what the program prints for it.
use Rattle.std.specs.Prelude.{◌≡◌, Bool, cond, ◌&&◌, List, [], ◌∷◌, ℕ, ◌+◌, ◌*◌, leb, eqb, length, get_or, take, drop}
use Rattle.basics.specs.Lists.{same}
use Rattle.tables.specs.Tables.{most_payload, most_list}
use Rattle.reader.specs.Reader.{Answer, Read, Refused, Reads}
use Rattle.text.specs.Paste.{Printed}
use Rattle.text.specs.Text.{reading_text, refusal_text}

-- "the file can't be opened or read", or it holds bytes
pub data File : Type 0 where
  Closed : File
  Holds : List ℕ → File

-- "Mark `KQS`, 16-bit version 1 (high byte first)"
unfoldable pub mark : List ℕ
mark = 75 ∷ 81 ∷ 83 ∷ 0 ∷ 1 ∷ []

-- "a side byte s, then s·s modules": not "under 6 bytes, has a wrong mark or version, or a length not 6 + s·s"
unfoldable pub whole : List ℕ → Bool
whole bytes = let s = get_or bytes 5 0 in leb 6 (length bytes) && (same (take 5 bytes) mark && eqb (length bytes) (6 + s * s))

-- the length of the longest such file
abbrev pub most_file : ℕ
most_file = 6 + 255 * 255

-- what is in a file: the modules of a symbol, or no symbol
pub data Opened : Type 0 where
  Symbol : (modules : List ℕ) → Opened
  NoSymbol : Opened

abbrev pub opened : File → Opened
opened Closed = NoSymbol
opened (Holds bytes) = cond (whole bytes) (Symbol (drop 6 bytes)) NoSymbol

-- "File refusal 17"
abbrev pub file_refusal : ℕ
file_refusal = 17

-- the answer in each case: "File refusal 17 ..; then the reader's own", with buffers of the lengths that the reader asks for
abbrev pub FileAnswer : Opened → Answer → Type 0
FileAnswer NoSymbol a = a ≡ Refused file_refusal
FileAnswer (Symbol modules) a = Reads modules most_payload most_list a

-- the whole output for an answer
abbrev pub printed : Answer → List ℕ
printed (Read v level mask payload list t e) = reading_text v level mask payload list t e
printed (Refused n) = refusal_text n

-- what the program prints for a file
pub record Prints (file : File) (out : List ℕ) : Type 0 where
  pub answer : Answer
  pub answers : FileAnswer (opened file) answer
  pub prints : out ≡ printed answer

-- ---- what the buffer holds then

-- the text of the answer that a symbol's modules get is the front of the buffer and so many bytes long
pub record SymbolPrinted (modules before : List ℕ) (count : ℕ) (after : List ℕ) : Type 0 where
  pub answer : Answer
  pub reads : Reads modules most_payload most_list answer
  pub holds : Printed (printed answer) before count after

-- the text of a file is the front of the buffer and so many bytes long; behind it the buffer is as it was
pub record FilePrinted (file : File) (before : List ℕ) (count : ℕ) (after : List ℕ) : Type 0 where
  pub output : List ℕ
  pub prints : Prints file output
  pub holds : Printed output before count after
