-- `parse::next_segment` meets its contract: after the head the segment fits, after the body its groups are in range.
use native.Mathlib.Omega.{arith}
use lib.ListN.{length-set}
use Rattle.std.proofs.lemmas.Result.{err_from_is_err_and}
use Rattle.parse.proofs.Steps.{room_chars, room_pairs, mode_small, count_small, body_asks, step_broken, step_done}
use Rattle.parse.proofs.next_segment.Goals as goal

pub read_body-requires : goal.read_body-requires
read_body-requires c = body_asks _ _ _ _ _ c.requires _ _ c.in_ok-mode.ensures.0 _ c.in_ok-mode.ensures.1

pub returns-in_err-cursor : goal.returns-in_err-cursor
returns-in_err-cursor c =
    let p = err_from_is_err_and c.from_residual-in_err-cursor.result c.from_residual-in_err-cursor.ensures.1 in
    rw (p.1, p.2) (step_broken _ _ _ _ _ c.requires _ _ c.in_ok-mode.ensures.0 _ c.in_ok-mode.ensures.1 c.read_body.new.payload _ c.in_err-cursor.ensures)

pub overflow_cast-list : goal.overflow_cast-list
overflow_cast-list c = record { fits = mode_small _ _ _ _ _ c.requires _ _ c.in_ok-mode.ensures.0 }

pub bounds-list-i : goal.bounds-list-i
bounds-list-i c = omega (arith, room_pairs _ _ _ _ _ c.requires _ _ c.in_ok-mode.ensures.0, c.requires.numbers)

pub overflow_cast-list-2 : goal.overflow_cast-list-2
overflow_cast-list-2 c = record { fits = count_small _ _ _ _ _ c.requires _ _ c.in_ok-mode.ensures.0 }

pub bounds-list-i-2 : goal.bounds-list-i-2
bounds-list-i-2 c = simp length-set (omega (arith, room_pairs _ _ _ _ _ c.requires _ _ c.in_ok-mode.ensures.0, c.requires.numbers))

pub overflow_add-result : goal.overflow_add-result
overflow_add-result c = omega (arith, room_chars _ _ _ _ _ c.requires _ _ c.in_ok-mode.ensures.0)

pub returns : goal.returns
returns c = step_done _ _ _ _ _ c.requires _ _ c.in_ok-mode.ensures.0 _ c.in_ok-mode.ensures.1 _ _ c.in_ok-cursor.ensures
