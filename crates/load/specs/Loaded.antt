-- What is held of a file, and what it gets.
use Rattle.std.specs.Prelude.{◌≡◌, List, ℕ, ◌≤◌, length, take, Option, Some, None}
use Rattle.reader.specs.Reader.{Answer, Refused}
use Rattle.text.specs.Paste.{Printed}
use Rattle.symbolfile.specs.SymbolFile.{opened, FileAnswer, file_refusal, printed}
use Rattle.symbolfile.specs.SymbolFile as file

-- what was loaded, so many bytes or no file, lies within the buffer
abbrev pub Within : Option ℕ → List ℕ → Type 0
Within (Some n) bytes = n ≤ length bytes
Within None bytes = Unit {0}

-- the answer in each case: "File refusal 17: the file can't be opened or read", else that of a file with so many bytes from the buffer's front
abbrev pub LoadedAnswer : Option ℕ → List ℕ → Answer → Type 0
LoadedAnswer None bytes a = a ≡ Refused file_refusal
LoadedAnswer (Some n) bytes a = FileAnswer (opened (file.Holds (take n bytes))) a

-- the answer's text is the front of the buffer and so many bytes long; behind it the buffer is as it was
pub record LoadedPrinted (loaded : Option ℕ) (bytes before : List ℕ) (count : ℕ) (after : List ℕ) : Type 0 where
  pub answer : Answer
  pub answers : LoadedAnswer loaded bytes answer
  pub holds : Printed (printed answer) before count after
