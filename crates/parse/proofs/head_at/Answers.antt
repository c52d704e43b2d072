-- `parse::head_at` meets its contract: each refusal ends at the demand that fails, in the paper's order.
use mathlib.Core.Path.{sym, ap₂, ◌∙◌}
use native.Mathlib.Omega.{arith}
use Rattle.cursor.specs.Cursor.{field}
use Rattle.parse.specs.Parse.{head_width}
use Rattle.parse.proofs.Heads.{going, no_mode, no_count, no_body, segment_fits, field_small, width_small}
use Rattle.parse.proofs.head_at.Goals as goal

pub take-first-requires : goal.take-first-requires
take-first-requires c = (omega arith, (omega arith, going _ _ c.requires.1))

pub returns-then-not-known : goal.returns-then-not-known
returns-then-not-known c = no_mode _ _ c.requires.1 _ _ (sym (c.take-first.ensures.0)) (sym c.known.ensures ∙ c.if-not-known.true)

pub overflow_sub-end : goal.overflow_sub-end
overflow_sub-end c = omega (arith, c.take-first.ensures.1, going _ _ c.requires.1)

pub returns-then-end-field : goal.returns-then-end-field
returns-then-end-field c =
    no_count _ _ c.requires.1 _ _ (sym (c.take-first.ensures.0)) (sym c.known.ensures ∙ c.if-not-known.false)
    (omega (arith, c.take-first.ensures.1, c.if-end-field.true, c.count_width-width.ensures))

pub take-second-requires : goal.take-second-requires
take-second-requires c = (
  rw c.count_width-width.ensures (width_small _ _),
  (omega arith, omega (arith, c.take-first.ensures.1, going _ _ c.requires.1, c.if-end-field.false)),
)

pub overflow_sub-end-2 : goal.overflow_sub-end-2
overflow_sub-end-2 c = omega (arith, c.take-second.ensures.1, c.take-first.ensures.1, going _ _ c.requires.1, c.if-end-field.false)

pub body_width-requires : goal.body_width-requires
body_width-requires c =
    rw (c.take-second.ensures.0, c.count_width-width.ensures) (field_small _ _ _ (width_small _ _))

pub returns-then-end-body : goal.returns-then-end-body
returns-then-end-body c =
    no_body _ _ c.requires.1 _ _ (sym (c.take-first.ensures.0)) (sym c.known.ensures ∙ c.if-not-known.false)
    (omega (arith, c.take-first.ensures.1, c.if-end-field.false, c.count_width-width.ensures)) _
    (sym (c.take-second.ensures.0 ∙ ap₂ (field c.args.codewords.now) c.take-first.ensures.1 c.count_width-width.ensures))
    (omega (arith, c.take-second.ensures.1, c.take-first.ensures.1, c.count_width-width.ensures, c.if-end-body.true, c.body_width.ensures))

pub returns : goal.returns
unfolding head_width
returns c = (
  segment_fits _ _ c.requires.1 _ _ (sym (c.take-first.ensures.0)) (sym c.known.ensures ∙ c.if-not-known.false)
      (omega (arith, c.take-first.ensures.1, c.if-end-field.false, c.count_width-width.ensures)) _
      (sym (c.take-second.ensures.0 ∙ ap₂ (field c.args.codewords.now) c.take-first.ensures.1 c.count_width-width.ensures))
      (omega (arith, c.take-second.ensures.1, c.take-first.ensures.1, c.count_width-width.ensures, c.if-end-body.false, c.body_width.ensures)),
  omega (arith, c.take-second.ensures.1, c.take-first.ensures.1, c.count_width-width.ensures),
)
