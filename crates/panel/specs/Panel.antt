-- What the entries for C answer, and what memory holds then.
use Rattle.std.specs.Prelude.{◌≡◌, List, ℕ, ◌/◌, length}
use Rattle.tables.specs.Tables.{side as side_of}
use Rattle.writer.specs.Writer.{Request, Drawing, draw, output_after}
use Rattle.writer.specs.Writer as writer
use Rattle.reader.specs.Reader.{Answer, Reads, payload_after, list_after}
use Rattle.reader.specs.Reader as reader
use Rattle.panel.specs.declared.KqsDrawn.{KqsDrawn}
use Rattle.panel.specs.declared.KqsReading.{KqsReading}

-- "Its answer: version, mask, side"; "A refusal carries its number and zeros"
abbrev pub drawn_of : Drawing → KqsDrawn
drawn_of (writer.Drawn v m modules) = record { refusal = 0; version = v; mask = m; side = side_of v }
drawn_of (writer.Refused n) = record { refusal = n; version = 0; mask = 0; side = 0 }

-- "It writes the first s·s output bytes only"; on a refusal, "Output memory is unchanged"
pub record WriteAnswers (r : Request) (out : List ℕ) (a : KqsDrawn) (after : List ℕ) : Type 0 where
  pub answer : a ≡ drawn_of (draw r (length out))
  pub memory : after ≡ output_after (draw r (length out)) out

-- "Its answer: version, level, mask, payload length, number of segments, and over all blocks the sum of t and the sum of e"; "A refusal carries its number and zeros"
abbrev pub reading_of : Answer → KqsReading
reading_of (reader.Read v l k payload list t e) =
    record { refusal = 0; version = v; level = l; mask = k; payload = length payload; segments = length list / 2; differing = t; unreadable = e }
reading_of (reader.Refused n) =
    record { refusal = n; version = 0; level = 0; mask = 0; payload = 0; segments = 0; differing = 0; unreadable = 0 }

-- the answer is that of the plain rule, and memory holds what it says
pub record ReadAnswers (m payload list : List ℕ) (a : KqsReading) (payload' list' : List ℕ) : Type 0 where
  pub answer : Answer
  pub reads : Reads m (length payload) (length list) answer
  pub says : a ≡ reading_of answer
  pub payload_memory : payload' ≡ payload_after answer payload
  pub list_memory : list' ≡ list_after answer list

-- no two different answers, nor two contents of memory, satisfy the promise of `kqs_write`, or of `kqs_read`
abbrev pub WriteAnswersOnly : Type 0
WriteAnswersOnly = (r : Request) (out : List ℕ) (a a₁ : KqsDrawn) (after after₁ : List ℕ)
    → WriteAnswers r out a after → WriteAnswers r out a₁ after₁ → (a ≡ a₁) × (after ≡ after₁)

abbrev pub ReadAnswersOnly : Type 0
ReadAnswersOnly = (m payload list : List ℕ) (a a₁ : KqsReading) (payload' payload₁ list' list₁ : List ℕ)
    → ReadAnswers m payload list a payload' list' → ReadAnswers m payload list a₁ payload₁ list₁ → (a ≡ a₁) × (payload' ≡ payload₁) × (list' ≡ list₁)
