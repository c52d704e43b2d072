-- `scan::Matrix::pair` meets its contract. The loops' invariants: the entries so far are the data modules that the steps so far met.
use Rattle.std.proofs.Common.{◌≡◌, ◌+◌, ◌-◌, ◌*◌, ◌<◌, ℕ, zero, suc, [], ◌∷◌, get_or, refl, arith}
use Rattle.tables.specs.Tables.{side}
use Rattle.scan.proofs.Reading.{steps_inside, walk_row}
use Rattle.scan.proofs.Matrix.pair.Goals as goal

column_at : (right j : ℕ) → j < 2 → get_or (right ∷ ((right - 1) ∷ [])) j 0 ≡ right - j
column_at right zero h = omega arith
column_at right (suc zero) h = refl
column_at right (suc (suc j)) h = absurd (omega arith)

pub meet-count-requires-clause-room : goal.meet-count-requires-clause-room
meet-count-requires-clause-room c =
    let l = c.loop-column in
    omega (arith, steps_inside (side c.args.self.v) c.args.q (2 * c.loop-t.t + l.column-index) c.requires.ready.0 (omega arith), l.invariant.few, c.requires.ready.1)

pub loop-column-preserved : goal.loop-column-preserved
loop-column-preserved c =
    let l = c.loop-column in
    let right : ℕ = c.pair_column-right.result in
    let s = c.side-s.ensures in
    let column = column_at right l.column-index (omega arith) in
    let k : ℕ = c.args.q * (2 * side c.args.self.v) + (2 * c.loop-t.t + l.column-index) in
    let met =
    c.meet-count.ensures.walked k
    (walk_row (side c.args.self.v) c.args.q c.loop-t.t l.column-index _ right _ (omega arith) (omega arith) (rw s at c.pair_row-row.ensures.0)
    (rw s at c.pair_column-right.ensures.0) column)
    l.invariant in
    let next : k + 1 ≡ c.args.q * (2 * side c.args.self.v) + (2 * c.loop-t.t + (l.column-index + 1)) = omega arith in
    rw next at met
