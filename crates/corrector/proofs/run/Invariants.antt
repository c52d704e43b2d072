-- `corrector::run` meets its contract.
use Rattle.std.proofs.Common.{◌≡◌, ◌+◌}
use Rattle.field.specs.Field.{inv_n}
use Rattle.corrector.specs.Lanes.{Running}
use Rattle.corrector.proofs.run.Given as goal

abbrev pub invariant-loop : goal.invariant-loop
invariant-loop l = Running l.s l.st.i l.st.l l.st.a l.st.b l.st.e × (l.st.i + l.st.l ≡ l.counter) × (l.st.f ≡ inv_n l.st.e)
