-- `scan::eight` meets its contract. The loop's invariant: the number of the modules passed, and whether all could be read.
use Rattle.std.proofs.Common.{◌≡◌, ◌<◌, ℕ, List, Bool, true, false, refl, arith, add-one, sym, eqb, length, take, ◌∙◌}
use native.Mathlib.Nat.{pow-suc}
use mathlib.Core.Bool.{not}
use lib.Seq.{take-length}
use Rattle.basics.specs.Bits.{number, number_after}
use Rattle.basics.specs.Lists.{any, AtMost}
use Rattle.basics.proofs.Bits.{number_lt}
use Rattle.scan.proofs.Reading.{number_more, readable_more, all_read}
use Rattle.scan.proofs.eight.Goals as goal

pub loop-b-init : goal.loop-b-init
unfolding number number_after any
loop-b-init c = (omega arith, refl, refl)

pub loop-b-preserved : goal.loop-b-preserved
loop-b-preserved c =
    let l = c.loop-b in
    let bits = c.args.bits.now in (
      rw (add-one l.b-index, pow-suc 2 l.b-index) (omega (arith, c.requires.0 l.b-index (omega arith))),
      rw (c.from.ensures, l.invariant.1) (sym (number_more bits l.b-index (omega arith))),
      rw l.invariant.2 (readable_more bits l.b-index (omega arith)),
    )

set : (t : Bool) → true ≡ not t → t ≡ false
set true e = absurd (cc)
set false e = refl

-- where all can be read, the number is a byte
small : (bits : List ℕ) (x : ℕ) → AtMost 2 bits → length bits ≡ 8 → x ≡ number bits → any (eqb 2) bits ≡ false → x < 256
small bits x h l e none = rw (← e, l) at (number_lt bits (all_read bits h none))

pub overflow_cast-result : goal.overflow_cast-result
overflow_cast-result c =
    let l = c.loop-b in
    let bits = c.args.bits.now in
    let end : l.b-index ≡ length bits = omega arith in
    let whole : take l.b-index bits ≡ bits = rw end (take-length bits) in
    let none : any (eqb 2) bits ≡ false = set (any (eqb 2) bits) (sym c.if-readable.true ∙ (rw whole at l.invariant.2)) in
    record { fits = small bits l.x c.requires.0 c.requires.1 (rw whole at l.invariant.1) none }
