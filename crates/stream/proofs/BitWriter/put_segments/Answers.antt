use Rattle.std.proofs.Common.{arith, rules, ◌≡◌, ◌<◌, ◌++◌, ℕ, List, length, get_or, take, drop, refl, ap, ◌∙◌}
use Rattle.std.specs.Slice.Iter.{chunks_exact_rest}
use Rattle.std.specs.declared.slice.ChunksExact.{ChunksExact}
use Rattle.std.proofs.lemmas.Grind.{common_steps}
use Rattle.stream.specs.Put.{segment_bits}
use Rattle.stream.specs.Stream.{counts, segments}
use Rattle.stream.proofs.Pairs.{counts_more, segments_more, segments_none}
use Rattle.stream.proofs.Put.{going_start, piece_room, piece_put, going_done}
use Rattle.stream.proofs.Widths.{segment_le}
use Rattle.stream.proofs.BitWriter.put_segments.Goals as goal

-- the first pair's segment, and those behind it
module _ {l : List ℕ} (pair rest : List ℕ) {size : ℕ} (e : l ≡ pair ++ rest) (h : length pair ≡ size) (two : size ≡ 2) where
  piece : (v : ℕ) (s front back : List ℕ) (mode count : ℕ) → counts l ≡ length s → mode ≡ get_or pair 0 0 → count ≡ get_or pair 1 0 → front ≡ take count s → back ≡ drop count s
      → segments v l s ≡ segment_bits v mode front ++ segments v rest back
  piece v s front back mode count w m c f b =
      ap (λ (l : List ℕ). segments v l s) e ∙ segments_more pair rest (h ∙ two) v s (omega (arith, rw e at w)) ∙ rw (f, b, m, c)

pub loop-pair-init : goal.loop-pair-init
loop-pair-init c =
    let e : chunks_exact_rest c.into_iter-pair-iterator.result ≡ c.args.list.now =
    ap (λ (s : ChunksExact ℕ). chunks_exact_rest s) c.into_iter-pair-iterator.ensures.into_iter_gives ∙ c.chunks_exact-pair-items.ensures.rest in
    record { pairs = search rules; long = rw e c.requires.0; put = rw e (going_start c.requires.1) }

pub put_segment-requires : goal.put_segment-requires
put_segment-requires c =
    let t = c.in-Some.ensures.steps.1 in
    let whole = piece c.in-Some.pair.now _ t.0 t.1 c.loop-pair.invariant.pairs c.args.v _ _ _ _ _ c.loop-pair.invariant.long refl c.from.ensures
    c.split_at.ensures.front c.split_at.ensures.back in
    let short : c.from.result < 65536 = rw c.from.ensures (search rules) in
    (omega (arith, c.split_at.ensures.front_len), piece_room c.loop-pair.invariant.put c.requires.1 _ _ whole)

pub loop-pair-preserved : goal.loop-pair-preserved
loop-pair-preserved c =
    let t = c.in-Some.ensures.steps.1 in
    let whole = piece c.in-Some.pair.now _ t.0 t.1 c.loop-pair.invariant.pairs c.args.v _ _ _ _ _ c.loop-pair.invariant.long refl c.from.ensures
    c.split_at.ensures.front c.split_at.ensures.back in
    record {
      pairs = search rules;
      long = grind (arith, common_steps, counts_more);
      put = piece_put c.loop-pair.invariant.put c.requires.1 _ _ whole (segment_le c.args.v _ _) c.put_segment.ensures;
    }

pub returns : goal.returns
returns c = going_done c.loop-pair.invariant.put (segments_none _ (omega (arith, c.in-None.ensures.steps.1.0, c.loop-pair.invariant.pairs)) _ _)
