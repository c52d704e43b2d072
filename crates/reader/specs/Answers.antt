-- What the reader's call answers and what memory holds then: the one answer of the plain rule.
use Rattle.std.specs.Prelude.{◌≡◌, Result, Ok, Err, List, ℕ, ◌/◌, length}
use Rattle.scan.specs.Received.{received}
use Rattle.reader.specs.declared.Reading.{Reading}
use Rattle.reader.specs.declared.Refusal.{Refusal}
use Rattle.reader.specs.Reader.{Answer, Read, Refused, First, NoCodeword, AllStand, Reads, payload_after, list_after}
use Rattle.reader.specs.Refusals.{refusal_number}

-- what the call answers, with the refusal's number in place of the refusal
abbrev pub by_number : Result Reading Refusal → Result Reading ℕ
by_number (Ok reading) = Ok reading
by_number (Err refusal) = Err (refusal_number refusal)

-- the paper's number and values for each answer: "version, level, mask, payload length, number of segments, and over all blocks the sum of t
-- and the sum of e"; a refusal is its number
abbrev pub answered_of : Answer → Result Reading ℕ
answered_of (Read v l k payload list t e) =
    Ok
    (record { version = v; level = l; mask = k; payload = length payload; segments = length list / 2; differing = t; unreadable = e })
answered_of (Refused n) = Err n

-- the answer is that of the plain rule, and memory holds what it says
pub record Answers (m payload list : List ℕ) (r : Result Reading Refusal) (payload' list' : List ℕ) : Type 0 where
  pub answer : Answer
  pub reads : Reads m (length payload) (length list) answer
  pub says : by_number r ≡ answered_of answer
  pub payload_memory : payload' ≡ payload_after answer payload
  pub list_memory : list' ≡ list_after answer list

-- the same of the last two steps, once the level and the mask are known
pub record Finished (v level mask : ℕ) (m payload list : List ℕ) (r : Result Reading Refusal) (payload' list' : List ℕ) : Type 0 where
  pub answer : Answer
  pub then : First (NoCodeword v level (received v mask m)) 12 answer (AllStand v level mask (received v mask m) answer)
  pub says : by_number r ≡ answered_of answer
  pub payload_memory : payload' ≡ payload_after answer payload
  pub list_memory : list' ≡ list_after answer list
