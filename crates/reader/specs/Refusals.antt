-- This paper's number for each refusal of the reader.
use Rattle.std.specs.Prelude.{ℕ, None}
use Rattle.tables.specs.Version.{fixed_refusal}
use Rattle.parse.specs.Answer.{fault_number}
use Rattle.reader.specs.declared.Refusal.{Refusal}
use Rattle.reader.specs.declared.Refusal.TheVariants.{SmallBuffer, NoVersion, AboveTwo, OtherVersion, NoFormat, TwoFormats, NoCodeword, Stream}

-- 16: "payload buffer under 652 bytes or segment buffer under 308 numbers". 7: "matrix length is not s·s for a version 1 to 10". 8: "a module above 2".
-- 9: "a version copy stands for another version". 10: "neither format copy stands for anything". 11: "the format copies stand for different words".
-- 12: "a block has no codeword within its bound". 13 to 15: the stream's faults. 7 is the number that `tables` has for a length that fixes no version
abbrev pub refusal_number : Refusal → ℕ
refusal_number SmallBuffer = 16
refusal_number NoVersion = fixed_refusal None
refusal_number AboveTwo = 8
refusal_number OtherVersion = 9
refusal_number NoFormat = 10
refusal_number TwoFormats = 11
refusal_number NoCodeword = 12
refusal_number (Stream fault) = fault_number fault
