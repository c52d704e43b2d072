-- `cursor::Cursor::take` meets its contract.
-- The invariant: v is the field of the k bits passed.
use Prim.Native.Nat.{◌^◌, ◌<◌, ◌≤◌}
use native.Mathlib.Nat.{mul-le-mul, mod-lt}
use lib.Pow.{pow_pos, pow_mono}
use native.Mathlib.Omega.{arith}
use Rattle.cursor.proofs.Fields.{field_none, field_16}
use Rattle.cursor.proofs.Parts.{field_grown}
use Rattle.cursor.proofs.Cursor.take.Goals as goal

pub loop-k-init : goal.loop-k-init
loop-k-init c = (omega arith, field_none _ _)

pub overflow_mul-v : goal.overflow_mul-v
overflow_mul-v c =
    let few : c.loop-k.v ≤ 65535 = rw c.loop-k.invariant.1 (omega (arith, field_16 c.args.bytes.now c.args.self.at c.loop-k.k (omega arith))) in
    let up : c.power.result ≤ 256 = rw c.power.ensures (pow_mono {j = 8} (omega arith)) in
    record { fits = omega (arith, mul-le-mul few up) }

pub overflow_add-v : goal.overflow_add-v
overflow_add-v c =
    let few : c.loop-k.v ≤ 65535 = rw c.loop-k.invariant.1 (omega (arith, field_16 c.args.bytes.now c.args.self.at c.loop-k.k (omega arith))) in
    let up : c.power.result ≤ 256 = rw c.power.ensures (pow_mono {j = 8} (omega arith)) in
    let part : c.part_of.result < 2 ^ c.min-m.result = rw c.part_of.ensures (mod-lt _ (pow_pos _)) in
    let whole : 2 ^ c.min-m.result ≤ 256 = pow_mono {j = 8} (omega arith) in
    record { fits = omega (arith, mul-le-mul few up, part, whole) }

pub loop-k-preserved : goal.loop-k-preserved
loop-k-preserved c = (
  omega arith,
  field_grown c.args.bytes.now c.args.self.at c.loop-k.k c.min-m.result _ _ _ (omega arith) (omega arith) (omega arith) c.loop-k.invariant.1 c.power.ensures c.part_of.ensures,
)
