-- `parse::read_body` meets its contract. The invariant: what is written and what is left make the body.
use Prim.Native.Nat.{◌-◌}
use Rattle.parse.proofs.Along.{Along}
use Rattle.parse.proofs.read_body.Given as goal

abbrev pub invariant-loop-done : goal.invariant-loop-done
invariant-loop-done l = Along l.codewords l.mode l.count l.used l.initial.cursor.at l.initial.payload l.payload l.cursor.at l.done

abbrev pub decreases-loop-done : goal.decreases-loop-done
decreases-loop-done l = l.count - l.done
