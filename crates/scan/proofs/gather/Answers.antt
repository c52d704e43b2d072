-- `scan::gather` meets its contract: the walk, with the kinds that tell the data modules and the rows that tell the mask.
use mathlib.Core.Path.{subst⁻¹, ap, ◌∙◌}
use lib.ListN.{length}
use Rattle.basics.proofs.Build.{build_get, build_length}
use mathlib.Core.List.{List}
use Prim.Native.Nat.{ℕ, ◌-◌, ◌*◌, ◌≤◌}
use native.Mathlib.Nat.{mul-le-mul_left, le_trans}
use native.Mathlib.Omega.{arith}
use Rattle.modules.specs.Kinds.{row_flips}
use Rattle.tables.specs.Tables.{side, most_side}
use Rattle.scan.specs.Scan.{DataMap}
use Rattle.scan.proofs.Maps.{kinds_map}
use Rattle.scan.proofs.Whole.{received_passed}
use Rattle.scan.proofs.gather.Goals as goal

pub invariant_of-matrix : goal.invariant_of-matrix
invariant_of-matrix c =
    let v : ℕ = c.args.v in
    record {
      ready = record {
        least = c.requires.le_v.0;
        most = c.requires.le_v.1.0;
        matrix = c.requires.m_len.0;
        marked = subst⁻¹ (λ (k : List ℕ). DataMap v k) c.kinds.ensures (kinds_map v _);
        flips = omega (arith, ap length c.flip_rows-rows.ensures, build_length (row_flips c.args.mask) most_side);
      };
    }

pub returns : goal.returns
returns c =
    let v : ℕ = c.args.v in
    let m = c.args.m.now in
    let w = c.walk.ensures in
    let f = row_flips c.args.mask in
    let fewer : side v * (side v - 1) ≤ side v * side v = mul-le-mul_left (side v) (omega arith) in (
      w.0,
      (
        le_trans w.1.few (le_trans fewer c.requires.m_len.1),
        w.1.front ∙ received_passed v c.args.mask m c.requires.le_v.0 c.requires.le_v.1.0 _ (λ i h. rw c.flip_rows-rows.ensures (build_get f most_side i (omega arith))),
      ),
    )
