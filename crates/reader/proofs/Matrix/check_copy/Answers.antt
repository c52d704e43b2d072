-- `reader::Matrix::check_copy` meets its contract: what the copy stands for is the only word that it stands for.
use Rattle.reader.proofs.Words.{copy_same}
use Rattle.reader.proofs.Matrix.check_copy.Goals as goal

pub returns-in_default : goal.returns-in_default
returns-in_default c = copy_same _ _ _ _ c.in-Some.ensures c.if-x-self.false
