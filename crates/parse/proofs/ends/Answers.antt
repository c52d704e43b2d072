-- `parse::ends` meets its contract.
use mathlib.Core.Path.{sym, ap, ◌∙◌}
use Prim.Native.Nat.{ℕ}
use lib.Dec.{eqb}
use Rattle.std.proofs.lemmas.Bool.{lt-ltb}
use Rattle.parse.proofs.Heads.{few_left, four_left}
use Rattle.parse.proofs.ends.Goals as goal

pub returns-then-codewords-from-lt4 : goal.returns-then-codewords-from-lt4
returns-then-codewords-from-lt4 c = let a = c.args in lt-ltb _ _ c.if-codewords-from-lt4.true ∙ sym (few_left a.codewords.now a.from.at c.if-codewords-from-lt4.true)

pub returns-else-codewords-from-lt4 : goal.returns-else-codewords-from-lt4
returns-else-codewords-from-lt4 c = let a = c.args in
    ap (λ (n : ℕ). eqb n 0) c.take.ensures.0 ∙ sym (four_left a.codewords.now a.from.at c.if-codewords-from-lt4.false)
