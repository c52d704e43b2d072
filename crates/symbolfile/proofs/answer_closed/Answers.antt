-- `symbolfile::answer_closed` meets its contract: a file that cannot be opened or read is refusal 17.
use mathlib.Core.Path.{refl}
use Rattle.reader.specs.Reader.{Refused}
use Rattle.text.specs.Text.{refusal_text}
use Rattle.symbolfile.specs.SymbolFile.{file_refusal}
use Rattle.symbolfile.proofs.answer_closed.Goals as goal

pub returns : goal.returns
returns c = record {
  output = refusal_text file_refusal;
  prints = record { answer = Refused file_refusal; answers = refl; prints = refl };
  holds = c.print_refusal.ensures;
}
