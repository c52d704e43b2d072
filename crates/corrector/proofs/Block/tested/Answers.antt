-- `corrector::Block::tested` meets its contract.
use Rattle.std.proofs.Common.{◌≤◌, arith, rules}
use Rattle.corrector.specs.Lanes.{filled}
use Rattle.corrector.proofs.Testing.{equal_rows, unequal_rows, zeros_codeword, codeword_zeros, differing_most, unreadable_most}
use Rattle.corrector.proofs.Block.tested.Goals as goal
use Rattle.corrector.proofs.Block.tested.Goals.{After-differ-wrong}

-- the counts are within the block's length
counts : (c : After-differ-wrong) → (c.differ-wrong.result ≤ 255) × (c.args.missing ≤ 255)
counts c = (
  omega (arith, c.differ-wrong.ensures, differing_most c.args.self.word.now c.args.self.flags.now c.args.c.now, c.args.self.short),
  omega (arith, c.requires.2, unreadable_most c.args.self.flags.now, c.args.self.flagged, c.args.self.short),
)

pub returns-then-ne : goal.returns-then-ne
unfolding filled
returns-then-ne c = λ t e st. unequal_rows c.syndromes.result (filled 0) c.if-ne.ensures (codeword_zeros c.requires.1 c.syndromes.ensures (search rules) st.codeword)

pub overflow_mul-wrong : goal.overflow_mul-wrong
overflow_mul-wrong c = let k = counts c in search rules

pub overflow_add-wrong : goal.overflow_add-wrong
overflow_add-wrong c = let k = counts c in search rules

pub returns : goal.returns
unfolding filled
returns c = record {
  codeword = zeros_codeword c.requires.1 c.syndromes.ensures (equal_rows c.syndromes.result (filled 0) c.if-ne.ensures) (λ j l. omega (arith, c.type_inv.c j));
  long = c.requires.0;
  differs = c.differ-wrong.ensures;
  missing = c.requires.2;
  near = c.if-room-wrong.false;
}
