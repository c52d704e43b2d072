-- No two different answers satisfy the promise of an entry: the writer's is computed, and a matrix has one answer.
use mathlib.Core.Path.{sym, ap, ◌∙◌}
use lib.ListN.{length}
use Rattle.reader.specs.Reader.{Answer, payload_after, list_after}
use Rattle.reader.proofs.Only.{reads_only}
use Rattle.panel.specs.Panel.{reading_of, WriteAnswersOnly, ReadAnswersOnly}

pub write_answers_only : WriteAnswersOnly
write_answers_only r out a a₁ after after₁ x y = (x.answer ∙ sym y.answer, x.memory ∙ sym y.memory)

pub read_answers_only : ReadAnswersOnly
read_answers_only m payload list a a₁ payload' payload₁ list' list₁ x y =
    let e = reads_only m (length payload) (length list) x.answer y.answer x.reads y.reads in (
      x.says ∙ ap reading_of e ∙ sym y.says,
      x.payload_memory ∙ ap (λ (b : Answer). payload_after b payload) e ∙ sym y.payload_memory,
      x.list_memory ∙ ap (λ (b : Answer). list_after b list) e ∙ sym y.list_memory,
    )
