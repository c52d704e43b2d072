-- A block of a drawn symbol that is read as another codeword than the drawn one has many codewords wrong or lost: the code's own law, told of the block.
use mathlib.Core.Path.{sym, ◌∙◌}
use native.Mathlib.Omega.{arith}
use Rattle.basics.proofs.Lists.{length_map_up_to}
use Rattle.tables.proofs.Rules.{block_length_most}
use Rattle.code.proofs.Misread.{misread_needs}
use Rattle.blocks.specs.Blocks.{gathered}
use Rattle.reader.specs.Reader.{block_word}
use Rattle.promises.specs.Promises.{DrawnMisread}
use Rattle.promises.proofs.ReadBack.{holds}

pub drawn_misread : DrawnMisread
unfolding block_word gathered
drawn_misread r out v mask modules m b c t e bytes drawn l s other =
    let h = holds r out v mask modules bytes drawn in
    misread_needs _ _ _ _ _ c t e (rw (length_map_up_to) (omega (arith, block_length_most v r.level b h.lawful))) (length_map_up_to _ _ ∙ sym (length_map_up_to _ _))
    (h.codewords b l) s other
