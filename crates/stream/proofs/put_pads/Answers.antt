use Rattle.std.proofs.Common.{arith, ◌≡◌, ◌-◌, ◌++◌, ◌∷◌, ℕ, List, [], length, take, drop, sym, ap, ◌∙◌, length-drop}
use mathlib.Core.List.{append-nil}
use lib.ListN.{drop_of_length-le}
use lib.Seq.{take_all}
use Rattle.std.proofs.lemmas.List.{take_more, take_more_set}
use Rattle.stream.specs.Stream.{pads}
use Rattle.stream.proofs.Padding.{pads_length, pads_at}
use Rattle.stream.proofs.put_pads.Goals as goal

-- the bytes behind the front
behind : (out : List ℕ) (front : ℕ) → length (take (length out - front) (drop front out)) ≡ length out - front
behind out front = ap length (take_all (length out - front) (drop front out) (rw length-drop (omega arith))) ∙ length-drop front out

pub loop-k-preserved : goal.loop-k-preserved
loop-k-preserved c =
    let l = c.loop-k in
    let n = length c.args.out.now - c.args.front in
    let long = behind c.args.out.now c.args.front in
    take_more_set l.byte-items l.k c.pad_byte.result (omega arith)
    ∙ ap (λ (t : List ℕ). t ++ c.pad_byte.result ∷ []) l.invariant
    ∙ rw (c.pad_byte.ensures, ← pads_at n l.k (omega arith)) (sym (take_more (pads n) l.k 0 (rw pads_length (omega arith))))

pub returns : goal.returns
returns c =
    let l = c.loop-k in
    let n = length c.args.out.now - c.args.front in
    let long = behind c.args.out.now c.args.front in
    let filled : l.byte-items ≡ pads n = sym (take_all l.k l.byte-items (omega arith)) ∙ l.invariant ∙ take_all l.k (pads n) (rw pads_length (omega arith)) in
    rw (filled, drop_of_length-le (drop c.args.front c.args.out.now) {i = n} (rw length-drop (omega arith)), append-nil)
