-- The paper's number of each fault; what the call `parse` answers and what memory holds then, by cases on what the codewords hold.
use Rattle.std.specs.Prelude.{Result, Ok, Err, List, ◌++◌, ℕ, ◌/◌, length, drop}
use Rattle.parse.specs.declared.Sizes.{Sizes}
use Rattle.parse.specs.declared.Fault as declared
use Rattle.parse.specs.declared.Fault.TheVariants.{UnknownMode, RunsPast, OutOfRange}
use Rattle.parse.specs.Parse.{Parsed, Message, Fault}

-- ---- each fault's number in the paper's table

-- 13: "unknown mode in the stream". 14: "a count field or segment body runs past the data bits". 15: "a group out of range"
abbrev pub fault_number : declared.Fault → ℕ
fault_number UnknownMode = 13
fault_number RunsPast = 14
fault_number OutOfRange = 15

-- an answer, with the fault's number in place of the fault
abbrev pub by_number : Result Sizes declared.Fault → Result Sizes ℕ
by_number (Ok s) = Ok s
by_number (Err f) = Err (fault_number f)

-- ---- the call

-- "payload length, number of segments"; a refusal is its number
abbrev pub answer_of : Parsed → Result Sizes ℕ
answer_of (Message payload list) = Ok (record { payload = length payload; segments = length list / 2 })
answer_of (Fault n) = Err n

-- "It writes only that many bytes and pairs"; "Output memory is unchanged, also when later segments fail"
abbrev pub payload_after : Parsed → (memory : List ℕ) → List ℕ
payload_after (Message payload list) memory = payload ++ drop (length payload) memory
payload_after (Fault n) memory = memory

abbrev pub list_after : Parsed → (memory : List ℕ) → List ℕ
list_after (Message payload list) memory = list ++ drop (length list) memory
list_after (Fault n) memory = memory
