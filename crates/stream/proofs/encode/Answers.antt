-- `stream::encode` meets its contract: a cleared buffer, the segments put at its front, and the pads behind them.
use Rattle.std.proofs.Common.{arith, rules, refl, ◌∙◌}
use Rattle.tables.proofs.Rules.{data_most}
use Rattle.stream.proofs.Codewords.{cleared_room, put_length, put_fits, front_within, written}
use Rattle.stream.proofs.encode.Goals as goal

pub put_segments-requires : goal.put_segments-requires
put_segments-requires c = (c.requires.1.0.sums, cleared_room _ _ _ _ c.requires.1.0 _ _ c.requires.1.1 c.requires.0 (c.fill.ensures.after (λ y h. h)) refl)

pub front_count-front-requires : goal.front_count-front-requires
front_count-front-requires c = (
  omega (arith, put_length _ _ _ _ c.requires.1.0 _ _ c.requires.1.1 c.requires.0 (c.fill.ensures.after (λ y h. h)) refl _ c.put_segments.ensures, data_most c.args.v c.args.level c.requires.0),
  put_fits _ _ _ _ c.requires.1.0 _ _ c.requires.1.1 c.requires.0 (c.fill.ensures.after (λ y h. h)) refl _ c.put_segments.ensures,
)

pub put_pads-requires : goal.put_pads-requires
put_pads-requires c = front_within _ _ _ _ c.requires.1.0 _ _ c.requires.1.1 c.requires.0 (c.fill.ensures.after (λ y h. h)) refl _ c.put_segments.ensures _ c.front_count-front.ensures

pub returns : goal.returns
returns c =
    let whole = c.put_pads.ensures ∙ written _ _ _ _ c.requires.1.0 _ _ c.requires.1.1 c.requires.0 (c.fill.ensures.after (λ y h. h)) refl _ c.put_segments.ensures _ c.front_count-front.ensures in
    search (rules, whole)
