-- `modules::finish` meets its contract: the invariant: the first i rows are finished, and the rest is as it was.
use mathlib.Core.Path.{◌≡◌, sym, ap, ◌∙◌}
use mathlib.Core.List.{List, ◌++◌}
use Prim.Native.Nat.{ℕ, ◌+◌, ◌*◌, ◌≤◌, ◌<◌}
use native.Mathlib.Nat.{zero-mul}
use native.Mathlib.Omega.{arith}
use lib.ListN.{length, drop}
use Rattle.basics.specs.Build.{build}
use Rattle.basics.proofs.Parts.{length_part}
use Rattle.tables.specs.Tables.{side}
use Rattle.words.specs.Words.{format_word}
use Rattle.words.proofs.Bits.{format_bits_lt}
use Rattle.modules.specs.Kinds.{finished}
use Rattle.modules.proofs.Places.{square_small, row_end}
use Rattle.modules.proofs.Tints.{row_more, row_at, finished_build, front_length, part_le}
use Rattle.modules.proofs.finish.Goals as goal

-- row i is in both matrices
record Ends (i n base out : ℕ) : Type 0 where
  small : n ≤ 57
  low : i * n + n ≤ 3249
  in_base : i * n + n ≤ base
  in_out : i * n + n ≤ out

ends : (f : ℕ → ℕ) (i n s : ℕ) (base out₀ out : List ℕ) → n ≡ s → s ≤ 57 → i < n → length base ≡ s * s → s * s ≤ length out₀
    → out ≡ build f (i * n) ++ drop (i * n) out₀ → Ends i n (length base) (length out)
ends f i n s base out₀ out e most h whole room now =
    let small : n ≤ 57 = omega arith in
    let row : i * n + n ≤ n * n = row_end n i h in
    let same : n * n ≡ s * s = ap (λ (n : ℕ). n * n) e in
    record {
      small = small;
      low = omega (arith, square_small n small);
      in_base = omega arith;
      in_out = omega (arith, front_length f (i * n) out₀ out now (omega arith));
    }

pub format_word-requires : goal.format_word-requires
format_word-requires c = rw c.format_bits.ensures (format_bits_lt c.args.level c.args.mask (omega arith) (omega arith))

pub loop-i-init : goal.loop-i-init
unfolding build
loop-i-init c = rw zero-mul

pub tint_row-requires : goal.tint_row-requires
tint_row-requires c =
    let base = c.args.base.now in
    let i = c.loop-i.i in
    let n = c.side-s.result in
    let e =
    ends _ c.loop-i.i _ (side c.args.v) _ _ _ c.side-s.ensures (omega (arith, c.requires.0.most)) (omega arith)
    c.requires.1.1.0 c.requires.1.1.1.1 c.loop-i.invariant in (
      length_part _ _ _ e.in_out ∙ sym (length_part _ _ _ e.in_base),
      (
        rw (length_part base (i * n) n e.in_base) e.small,
        part_le 18 _ _ _ e.in_base c.requires.1.1.1.0,
      ),
    )

pub loop-i-preserved : goal.loop-i-preserved
loop-i-preserved c =
    let base = c.args.base.now in
    let i = c.loop-i.i in
    let n = c.side-s.result in
    let e =
    ends _ c.loop-i.i _ (side c.args.v) _ _ _ c.side-s.ensures (omega (arith, c.requires.0.most)) (omega arith)
    c.requires.1.1.0 c.requires.1.1.1.1 c.loop-i.invariant in
    let word = c.from-word.ensures ∙ c.format_word.ensures ∙ ap format_word c.format_bits.ensures in
    row_more _ _ _ _ _ i n c.loop-i.invariant (c.tint_row.ensures ∙ ap (build _) (length_part base (i * n) n e.in_base))
    (λ j h. row_at c.args.v c.args.level c.args.mask (omega arith) (omega arith) base c.requires.1.1.1.0 n
    c.side-s.ensures e.small i _ _ j (omega arith) word c.row_flips.ensures h)

pub returns : goal.returns
returns c =
    let l = c.loop-i in
    let n = c.side-s.result in
    let s = side c.args.v in
    let base = c.args.base.now in
    let size : n * n ≡ s * s = ap (λ (n : ℕ). n * n) c.side-s.ensures in
    let done : l.i ≡ n = omega arith in
    let whole : l.i * n ≡ s * s = ap (λ (i : ℕ). i * n) done ∙ size in
    l.invariant ∙ ap (λ (xs : List ℕ). xs ++ drop (l.i * n) c.args.out.now) (finished_build c.args.v c.args.level c.args.mask base (l.i * n) whole)
    ∙ ap (λ (m : ℕ). finished c.args.v c.args.level c.args.mask base ++ drop m c.args.out.now) whole
