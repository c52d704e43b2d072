-- `symbolfile::answer` meets its contract: a file that is no symbol file is refusal 17, else the reader answers.
use Rattle.symbolfile.proofs.Files.{no_symbol, symbol}
use Rattle.symbolfile.proofs.answer.Goals as goal

pub returns-in_default : goal.returns-in_default
returns-in_default c = no_symbol _ _ _ _ c.in_default.ensures c.print_refusal.ensures

pub returns : goal.returns
returns c = symbol _ _ _ _ _ c.in-Some.ensures c.print_answer.ensures
