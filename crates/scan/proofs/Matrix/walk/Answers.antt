-- `scan::Matrix::walk` meets its contract. The loop's invariant: the column pairs before q are walked.
use mathlib.Core.Path.{◌≡◌, refl, subst, sym, ◌∙◌}
use Prim.Native.Nat.{ℕ, ◌-◌, ◌*◌}
use native.Mathlib.Nat.{mul_assoc, mul_comm, mul_left_comm, zero-mul}
use native.Mathlib.Omega.{arith}
use mathlib.Core.List.{List}
use Rattle.basics.specs.Lists.{from, up_to, keep}
use Rattle.tables.specs.Tables.{side}
use Rattle.scan.specs.Scan.{Walked, passed}
use Rattle.scan.proofs.Matrix.walk.Goals as goal

none : (v : ℕ) (rows m out : List ℕ) → Walked v rows m (0 * (2 * side v)) 0 out
unfolding passed from up_to keep
none v rows m out = rw (zero-mul (2 * side v)) (record { few = omega arith; front = refl })

twist : (q s : ℕ) → 2 * (q * s) ≡ s * (2 * q)
twist q s = sym (mul_assoc 2 q s) ∙ mul_comm (2 * q) s

pub loop-q-init : goal.loop-q-init
loop-q-init c = none c.args.self.v c.args.self.rows.now c.args.self.m.now c.args.out.now

pub returns : goal.returns
returns c =
    let l = c.loop-q in
    let s : ℕ = side c.args.self.v in
    let pairs : s - 1 ≡ 2 * l.q = omega arith in
    let done : l.q * (2 * s) ≡ s * (s - 1) = mul_left_comm l.q 2 s ∙ (rw pairs (twist l.q s)) in
    (omega arith, subst (λ (k : ℕ). Walked c.args.self.v c.args.self.rows.now c.args.self.m.now k l.n l.out) done l.invariant)
