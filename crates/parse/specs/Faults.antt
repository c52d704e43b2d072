-- What is wrong with a stream, in the paper's words, at the bit place where its first fault is: refusals 13, 14 and 15, each exactly when.
use Rattle.std.specs.Prelude.{◌≡◌, ◌≢◌, ◌⊎◌, ◌↔◌, true, false, List, ℕ, zero, suc, ◌+◌, ◌-◌, ◌*◌, ◌<◌, ◌≤◌, length, take, drop}
use Rattle.basics.specs.Bits.{byte_bits, number}
use Rattle.tables.specs.Tables.{count_width}
use Rattle.stream.specs.Stream.{known, body_width}
use Rattle.parse.specs.declared.Group.{Group}
use Rattle.parse.specs.Groups.{group_of}
use Rattle.parse.specs.Parse.{head_width, Fault, message}

-- ---- a segment at the front of the bits that are left

-- "Each segment: 4-bit mode, count, body"
abbrev pub read_mode : List ℕ → ℕ
read_mode bs = number (take 4 bs)

abbrev pub read_count : (v : ℕ) → List ℕ → ℕ
read_count v bs = number (take (count_width v (read_mode bs)) (drop 4 bs))

-- the bits of the whole segment
unfoldable pub read_width : (v : ℕ) → List ℕ → ℕ
read_width v bs = head_width v (read_mode bs) + body_width (read_mode bs) (read_count v bs)

-- ---- its groups

-- a full group: three characters are left, or more
abbrev pub full_group : (mode : ℕ) → Group
full_group mode = group_of mode 3

-- group k of a body, counted from 0: each before it is full
abbrev pub group_at : (mode count k : ℕ) → Group
group_at mode count k = group_of mode (count - k * (full_group mode).size)

-- "Groups above 999, 99, 9 or, alphanumeric, above 2024, 44"
pub record GroupOver (mode count : ℕ) (body : List ℕ) : Type 0 where
  pub group : ℕ
  pub inside : group * (full_group mode).size < count
  pub over : (group_at mode count group).most < number (take (group_at mode count group).width (drop (group * (full_group mode).width) body))

-- ---- what may be wrong with it

-- 13: "unknown mode in the stream", where the stream goes on: "fewer than four bits left, or mode 0, ends the stream"
pub record UnknownMode (bs : List ℕ) : Type 0 where
  pub four : 4 ≤ length bs
  pub some : read_mode bs ≢ 0
  pub unknown : known (read_mode bs) ≡ false

-- 14: "a count field or segment body runs past the data bits"
pub record RunsPast (v : ℕ) (bs : List ℕ) : Type 0 where
  pub four : 4 ≤ length bs
  pub knows : known (read_mode bs) ≡ true
  pub past : (length bs < head_width v (read_mode bs)) ⊎ (length bs < read_width v bs)

-- 15: "a group out of range", in a segment whose body fits
pub record BadGroup (v : ℕ) (bs : List ℕ) : Type 0 where
  pub knows : known (read_mode bs) ≡ true
  pub holds : read_width v bs ≤ length bs
  pub over : GroupOver (read_mode bs) (read_count v bs) (drop (head_width v (read_mode bs)) bs)

-- nothing
pub record SoundSegment (v : ℕ) (bs : List ℕ) : Type 0 where
  pub knows : known (read_mode bs) ≡ true
  pub holds : read_width v bs ≤ length bs
  pub ranged : GroupOver (read_mode bs) (read_count v bs) (drop (head_width v (read_mode bs)) bs) → ⊥

-- ---- the whole stream

-- the bit place where segment k begins, counted from 0: right behind the segments before it
unfoldable pub segment_place : (v : ℕ) (bs : List ℕ) (k : ℕ) → ℕ
segment_place v bs zero = 0
segment_place v bs (suc k) = segment_place v bs k + read_width v (drop (segment_place v bs k) bs)

-- "the stream from its front, where the first fault decides": the segments before it are sound
pub record FirstFault (v : ℕ) (Faulty : List ℕ → Type 0) (bs : List ℕ) : Type 0 where
  pub index : ℕ
  pub sound : (k : ℕ) → k < index → SoundSegment v (drop (segment_place v bs k) bs)
  pub fault : Faulty (drop (segment_place v bs index) bs)

-- each number exactly where its words hold, and no other
pub record StreamRefused (v : ℕ) (codewords : List ℕ) : Type 0 where
  pub thirteen : (message v codewords ≡ Fault 13) ↔ FirstFault v UnknownMode (byte_bits codewords)
  pub fourteen : (message v codewords ≡ Fault 14) ↔ FirstFault v (RunsPast v) (byte_bits codewords)
  pub fifteen : (message v codewords ≡ Fault 15) ↔ FirstFault v (BadGroup v) (byte_bits codewords)
  pub others : (n : ℕ) → message v codewords ≡ Fault n → (n ≡ 13) ⊎ ((n ≡ 14) ⊎ (n ≡ 15))
