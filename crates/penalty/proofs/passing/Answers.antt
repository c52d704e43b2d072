-- `penalty::passing` meets its contract. The invariant: the count is that of the blocks passed.
use Rattle.std.proofs.Common.{rules, refl, sym, ap, ap₂, ◌∙◌, arith, ◌≡◌, ◌+◌, ◌*◌, ◌-◌, ◌%◌, ℕ, Bool}
use Rattle.basics.specs.Sums.{tally, sum}
use Rattle.penalty.specs.Lines.{AnswersAs}
use Rattle.penalty.proofs.Sums.{tally_split}
use Rattle.penalty.proofs.passing.Goals as goal

-- what is counted of a places and of the b after them
both : (post : ℕ → Bool → Type 0) (f : ℕ → Bool) (a b n x y : ℕ) → a + b ≡ n → (AnswersAs post f a → x ≡ tally a f)
    → ((g : ℕ → Bool) → AnswersAs (λ i r. post (a + i) r) g b → y ≡ tally b g) → AnswersAs post f n → x + y ≡ tally n f
both post f a b n x y e first second h =
    ap₂ ◌+◌ (first (λ i r l p. h i r (omega arith) p)) (second (λ i. f (a + i)) (λ i r l p. h (a + i) r (omega arith) p)) ∙ sym (tally_split a b f) ∙ ap (λ (k : ℕ). tally k f) e

pub loop-block-init : goal.loop-block-init
unfolding tally sum
loop-block-init g c = (omega arith, λ f h. refl)

pub passing_among-requires : goal.passing_among-requires
passing_among-requires g c =
    (omega arith, (omega arith, λ i h. c.requires.1 (64 * c.loop-block.block + i) (omega arith)))

pub loop-block-preserved : goal.loop-block-preserved
loop-block-preserved g c =
    let k = c.loop-block.block in
    let w : c.from-count.result ≡ c.passing_among.result = search rules in
    (omega arith, λ f h. rw w (both _ f (64 * k) 64 (64 * (k + 1)) _ _ (omega arith) (c.loop-block.invariant.1 f) c.passing_among.ensures h))

pub passing_among-requires-2 : goal.passing_among-requires-2
passing_among-requires-2 g c =
    let n = c.args.n in
    (omega arith, (omega arith, λ i h. c.requires.1 (n - n % 64 + i) (omega arith)))

pub returns : goal.returns
returns g c =
    let n = c.args.n in
    let w : c.from.result ≡ c.passing_among-2.result = search rules in
    let e : 64 * c.loop-block.block ≡ n - n % 64 = omega arith in
    λ f h. rw w (both _ f (n - n % 64) (n % 64) n _ _ (omega arith) (rw e at c.loop-block.invariant.1 f) c.passing_among-2.ensures h)
