-- A read moves no more bytes than the piece has, which lies behind the first n.
use Rattle.std.proofs.Common.{arith, ◌≤◌, ℕ, List, length, Result, Ok, Err, length-take, length-drop}
use Rattle.std.specs.Result.{IfOk}
use Rattle.io.specs.Counts.{IsPrefixLen}
use Rattle.load.specs.Pieces.{Moved}
use Rattle.load.proofs.piece.Goals as goal

moved : {E : Type 0} (got : Result ℕ E) (piece : List ℕ) (most : ℕ) → IfOk got (λ k. IsPrefixLen k piece) → length piece ≤ most → Moved most got
moved (Ok k) piece most h l = omega (arith, h.0)
moved (Err e) piece most h l = tt

pub after-requires : goal.after-requires
after-requires g c = (
  omega arith,
  moved c.read-got.result c.read-got.new.buf _ c.read-got.ensures.bound (omega (arith, c.read-got.auto.buf, length-take {A = ℕ}, length-drop {A = ℕ})),
)
