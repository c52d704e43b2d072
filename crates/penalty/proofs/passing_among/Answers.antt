-- `penalty::passing_among` meets its contract. The invariant: the count is that of the places passed.
use Rattle.std.proofs.Common.{refl, sym, ap, ◌∙◌, arith, ◌≡◌, ◌+◌, ◌≤◌, ℕ, Bool, true, false}
use native.Mathlib.Nat.{add-zero}
use Rattle.basics.specs.Sums.{tally, sum}
use Rattle.penalty.specs.Lines.{AnswersAs}
use Rattle.penalty.proofs.Sums.{tally_more}
use Rattle.penalty.proofs.passing_among.Goals as goal
use Rattle.penalty.proofs.passing_among.Goals.{then-test, else-test}

fewer : {post : ℕ → Bool → Type 0} {f : ℕ → Bool} (m n : ℕ) → m ≤ n → AnswersAs post f n → AnswersAs post f m
fewer m n h all i b l p = all i b (omega arith) p

pub loop-i-init : goal.loop-i-init
unfolding tally sum
loop-i-init g c = (omega arith, λ f h. refl)

pub loop-i-preserved : goal.loop-i-preserved
loop-i-preserved g c =
    let i = c.loop-i.i in
    let before = c.loop-i.invariant in
    let seen = c.test.ensures in
    elim c.if-test.branch [
      | then-test w ↦ (
        omega arith,
        λ f h. w.count-is ∙ ap (λ (x : ℕ). x + 1) (before.1 f (fewer i (i + 1) (omega arith) h)) ∙ sym (tally_more i f true (sym w.if-test.true ∙ h i _ (omega arith) seen)),
      )
      | else-test w ↦ (
        omega arith,
        λ f h.
            w.count-is ∙ before.1 f (fewer i (i + 1) (omega arith) h) ∙ sym (add-zero _) ∙ sym (tally_more i f false (sym w.if-test.false ∙ h i _ (omega arith) seen)),
      )
    ]

pub returns : goal.returns
returns g c = let e : c.loop-i.i ≡ c.args.n = omega arith in
    rw e at c.loop-i.invariant.1
