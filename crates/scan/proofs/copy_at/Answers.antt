-- `scan::copy_at` meets its contract. The loop's invariant: the bits from b up are read.
use Rattle.std.proofs.Common.{ℕ, ◌≡◌, ◌+◌, ◌-◌, ◌*◌, ◌^◌, ◌≤◌, ◌<◌, eqb, ltb, get_or, arith, add-one}
use native.Mathlib.Nat.{pow-suc}
use lib.Pow.{pow_mono, pow_pos}
use Rattle.basics.proofs.Sums.{one_le}
use Rattle.scan.proofs.Copies.{copy_none, copy_more}
use Rattle.scan.proofs.copy_at.Goals as goal

small : (n x : ℕ) → n ≤ 18 → x < 2 ^ n → x < 262144
small n x h l = omega (arith, pow_mono {i = n} {j = 18} h)

-- one bit more
wider : (n b x t r : ℕ) → 0 < b → b ≤ n → t ≤ 1 → x < 2 ^ (n - b) → r ≡ t + 2 * x → r < 2 ^ (n - (b - 1))
wider n b x t r h k l m e =
    let up : n - (b - 1) ≡ n - b + 1 = omega arith in
    rw (up, add-one (n - b), pow-suc 2 (n - b)) (omega arith)

pub loop-b-init : goal.loop-b-init
loop-b-init g c =
    (pow_pos (c.args.bits - c.args.bits), pow_pos (c.args.bits - c.args.bits), λ places e _. copy_none c.args.m.now places c.args.bits (omega arith))

pub below-copy-requires : goal.below-copy-requires
below-copy-requires g c =
    let l = c.loop-b in
    (small (c.args.bits - l.b) l.copy.bits (omega arith) l.invariant.0, small (c.args.bits - l.b) l.copy.readable (omega arith) l.invariant.1)

pub loop-b-preserved : goal.loop-b-preserved
loop-b-preserved g c =
    let l = c.loop-b in
    let m = c.args.m.now in
    let n : ℕ = c.args.bits in
    let p : ℕ = c.place.result in
    let r = c.below-copy in (
      wider n l.b l.copy.bits _ r.result.bits (omega arith) (omega arith) (one_le (eqb (get_or m p 0) 1)) l.invariant.0 r.ensures.0,
      wider n l.b l.copy.readable _ r.result.readable (omega arith) (omega arith) (one_le (ltb (get_or m p 0) 2)) l.invariant.1 r.ensures.1,
      λ places e told.
          copy_more m places l.b p l.copy r.result (omega arith) (omega arith) (l.invariant.2 places e told) (told (l.b - 1) p (omega arith) c.place.ensures) r.ensures,
    )
