-- What follows each call of the system while a file is loaded. What the system answers and reads is assumed; the rest is said here.
use Rattle.std.specs.Prelude.{◌≡◌, cond, List, ℕ, ◌+◌, ◌<◌, ◌≤◌, eqb, length, take, Option, Some, None, Result, Ok, Err, IfOk}
use Rattle.std.specs.declared.fs.File.{File}
use Rattle.load.specs.declared.Next.{Next}
use Rattle.load.specs.declared.Next.TheVariants.{Behind, Ended}

-- what an opening answers: a file is open on every descriptor that it got, 0 too
abbrev pub opened_file : {E : Type 0} → Result File E → Option File
opened_file (Ok file) = Some file
opened_file (Err e) = None

-- what a read that is handed n bytes may answer: an error, or how many bytes it moved, at most n
abbrev pub Moved : {E : Type 0} → ℕ → Result ℕ E → Type 0
Moved n (Ok k) = k ≤ n
Moved n (Err e) = Unit {0}

-- where a piece behind the first n bytes ends: it has a byte or more, and lies within the buffer
pub record PieceEnd (n room e : ℕ) : Type 0 where
  pub some : n < e
  pub within : e ≤ room

-- what follows an answer to a read behind the first n bytes of a buffer: an error stays one, 0 is the file's end, and any other number is so many bytes more,
-- after which the file goes on unless the buffer is full
abbrev pub after_read : {E : Type 0} → Result ℕ E → ℕ → ℕ → Result Next E
after_read (Err e) n room = Err e
after_read (Ok k) n room = Ok (cond (eqb k 0) (Ended n) (cond (eqb (n + k) room) (Ended (n + k)) (Behind (n + k))))

-- the bytes that are held then: more than before where the file goes on, and never more than the buffer has
abbrev pub Held : ℕ → ℕ → Next → Type 0
Held n room (Behind held) = (n < held) × (held < room)
Held n room (Ended held) = (n ≤ held) × (held ≤ room)

-- after a piece: the bytes in front of it are as they were
pub record Follows {E : Type 0} (n : ℕ) (before : List ℕ) (next : Result Next E) (after : List ℕ) : Type 0 where
  pub front : take n after ≡ take n before
  pub long : length after ≡ length before
  pub held : IfOk next (Held n (length after))
