-- `writer::write` meets its contract: the checks decide, and what is drawn is the request's symbol.
use mathlib.Core.Path.{◌≡◌, refl}
use Prim.Native.Nat.{ℕ, ◌<◌}
use native.Mathlib.Omega.{arith}
use Rattle.std.proofs.lemmas.Result.{err_from_is_err_and}
use Rattle.tables.specs.Tables.{Lawful}
use Rattle.writer.specs.Writer.{Request, request, taken, refusal, codewords}
use Rattle.writer.proofs.Answers.{accepted_lawful, accepted_room, accepted_mask, writes_refusal, writes_drawing}
use Rattle.writer.proofs.Drawn.{taken_lawful, chosen_small}
use Rattle.writer.proofs.write.Goals as goal

-- Where the checks have passed, the version is the one that is taken,
-- and it is lawful.
pub record Passed (r : Request) (out v : ℕ) : Type 0 where
  pub none : refusal r out ≡ 0
  pub version : v ≡ taken r.level r.version r.list
  pub lawful : Lawful v r.level

passed : (r : Request) (out v : ℕ) → (refusal r out ≡ 0) × (v ≡ taken r.level r.version r.list) → Passed r out v
passed r out v h = record { none = h.0; version = h.1; lawful = rw h.1 (taken_lawful r out h.0) }

pub returns-in_err-v : goal.returns-in_err-v
returns-in_err-v c =
    let p = err_from_is_err_and c.from_residual.result c.from_residual.ensures.1 in
    rw p.1 (writes_refusal _ _ _ (rw p.2 c.in_err-v.ensures.refused))

pub draw_at-drawn-requires : goal.draw_at-drawn-requires
draw_at-drawn-requires c =
    let p = passed (request c.args.payload.now c.args.list.now c.args.level c.args.version c.args.mask) _ _ c.in_ok-v.ensures.version in (
      p.lawful,
      (
        rw p.version (accepted_lawful _ _ p.none (λ i h. omega (arith, c.type_inv.payload i))),
        (
          accepted_mask _ _ p.none,
          record { held_long = refl; words_long = refl; base_long = refl; out_long = rw p.version (accepted_room _ _ p.none) },
        ),
      ),
    )

pub overflow_cast-result : goal.overflow_cast-result
overflow_cast-result c =
    let p = passed (request c.args.payload.now c.args.list.now c.args.level c.args.version c.args.mask) _ _ c.in_ok-v.ensures.version in
    omega (arith, p.lawful)

pub overflow_cast-result-2 : goal.overflow_cast-result-2
overflow_cast-result-2 c =
    let p = passed (request c.args.payload.now c.args.list.now c.args.level c.args.version c.args.mask) _ _ c.in_ok-v.ensures.version in
    let small : c.draw_at-drawn.result < 8 = rw c.draw_at-drawn.ensures.choice (chosen_small _ _ _ _ (accepted_mask _ _ p.none)) in
    omega arith

pub side-requires : goal.side-requires
side-requires c =
    let p = passed (request c.args.payload.now c.args.list.now c.args.level c.args.version c.args.mask) _ _ c.in_ok-v.ensures.version in
    p.lawful.most

pub overflow_cast-result-3 : goal.overflow_cast-result-3
overflow_cast-result-3 c =
    let p = passed (request c.args.payload.now c.args.list.now c.args.level c.args.version c.args.mask) _ _ c.in_ok-v.ensures.version in
    omega (arith, c.side.ensures, p.lawful)

pub returns : goal.returns
unfolding codewords
returns c =
    let p = passed (request c.args.payload.now c.args.list.now c.args.level c.args.version c.args.mask) _ _ c.in_ok-v.ensures.version in
    writes_drawing _ _ _ _ _ _ p.none p.version c.draw_at-drawn.ensures c.side.ensures
