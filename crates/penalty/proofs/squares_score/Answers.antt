-- `penalty::squares_score` meets its contract.
use Rattle.std.proofs.Common.{rules, refl, sym, ◌≡◌, ◌∙◌, ◌+◌, ◌-◌, ◌*◌, ◌<◌, ◌≤◌, arith, ℕ, length}
use native.Mathlib.Nat.{mul-le-mul, suc-mul}
use native.Mathlib.Numerals.{add-one}
use Rattle.std.proofs.lemmas.Iterator.{YieldsList-from_range, YieldsList-from_map, serves_from_Range}
use Rattle.std.proofs.lemmas.Iterator.Consumers.{YieldsList-at, sum_from_yields_List, fits_from_yields_list}
use Rattle.penalty.specs.Lines.{squares_from}
use Rattle.penalty.proofs.Bound.{sum_bound}
use Rattle.penalty.proofs.Lines.{reach}
use Rattle.penalty.proofs.Squares.{squares_from_le, squares_rows}
use Rattle.penalty.proofs.Sums.{sum_range}
use Rattle.penalty.proofs.squares_score.Goals as goal

-- two rows are inside
inside : (i s : ℕ) → i < s - 1 → s ≤ 64 → (i * s + s + s ≤ s * s) × (s * s ≤ 4096)
inside i s h l = let next : (i + 1) * s ≡ i * s + s = rw (add-one, suc-mul) in
    (rw (sym next) (reach (i + 1) s s (omega arith)), mul-le-mul l l)

pub sum-requires-clause-can : goal.sum-requires-clause-can
sum-requires-clause-can c = (
  tt,
  serves_from_Range (λ x q r. search rules)
      (λ x lo hi.
      let f = c.map.result.f in
      let e : f.1.now ≡ c.args.s = rw c.map.ensures.closure in
      let l : length f.0.now ≡ f.1.now * f.1.now = rw (e, c.map.ensures.closure) c.requires.1.1 in
      let h : x < f.1.now - 1 = rw (c.map.ensures.source, sym e) at hi in
      let t = inside x f.1.now h (omega arith) in
      search rules),
)

small : (n : ℕ) → n ≤ 63 → n * (3 * n) ≤ 63 * 189
small n h = let k : 3 * n ≤ 189 = omega arith in mul-le-mul h k

pub sum-requires-clause-fits : goal.sum-requires-clause-fits
sum-requires-clause-fits c =
    let m = c.args.m.now in
    let s = c.args.s in
    fits_from_yields_list c.map.result _
    (YieldsList-from_map _ (λ i. squares_from s m (i * s) (s - 1))
    (YieldsList-at c.map.ensures.source (YieldsList-from_range 0 (s - 1) (s - 1) refl (omega arith))) c.map.ensures.closure (λ x r q k. search rules))
    (rw (sum_range _ (s - 1))
    (omega (arith, sum_bound (s - 1) (λ i. squares_from s m (i * s) (s - 1)) (3 * (s - 1)) (λ i. squares_from_le s m (i * s) (s - 1)), small (s - 1) (omega arith))))

pub returns : goal.returns
returns c =
    let m = c.args.m.now in
    let s = c.args.s in
    sum_from_yields_List c.map.result _ c.sum.ensures.ran
    (YieldsList-from_map _ (λ i. squares_from s m (i * s) (s - 1))
    (YieldsList-at c.map.ensures.source (YieldsList-from_range 0 (s - 1) (s - 1) refl (omega arith))) c.map.ensures.closure (λ x r q k. search rules))
    ∙ sum_range _ (s - 1)
    ∙ sym (squares_rows s m)
