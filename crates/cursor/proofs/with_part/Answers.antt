-- `cursor::with_part` meets its contract: the byte is cut where its bits are cut.
use mathlib.Core.Path.{◌≡◌, ap, ◌∙◌}
use mathlib.Core.List.{◌++◌}
use Prim.Native.Nat.{ℕ, ◌+◌, ◌-◌, ◌≤◌}
use native.Mathlib.Omega.{arith}
use lib.ListN.{take, drop}
use Rattle.basics.specs.Bits.{bits}
use Rattle.cursor.proofs.Parts.{with_part, byte_part, part_small}
use Rattle.cursor.proofs.with_part.Goals as goal

place : (x low m v : ℕ) → low + m ≤ 8 → bits 8 (with_part x low m v) ≡ take (8 - low - m) (bits 8 x) ++ (bits m v ++ drop (8 - low) (bits 8 x))
place x low m v h =
    let e : 8 - low - m + m ≡ 8 - low = omega arith in
    byte_part x (8 - low - m) m low v (omega arith) ∙ ap (λ (n : ℕ). take (8 - low - m) (bits 8 x) ++ (bits m v ++ drop n (bits 8 x))) e

pub overflow_cast-result : goal.overflow_cast-result
overflow_cast-result c = record { fits = rw (c.power-unit.ensures, c.power-size.ensures, c.from-byte.ensures) (part_small c.args.x c.args.low c.args.m c.args.value c.ranges.x.fits c.requires) }

pub returns : goal.returns
returns c = rw (c.power-unit.ensures, c.power-size.ensures, c.from-byte.ensures)
    (place c.args.x c.args.low c.args.m c.args.value c.requires)
