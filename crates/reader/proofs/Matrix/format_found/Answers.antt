-- `reader::Matrix::format_found` meets its contract: the copy is as it was read, and has few enough bits.
use Rattle.reader.proofs.Words.{format_asked}
use Rattle.reader.proofs.Matrix.format_found.Goals as goal

pub find_format-requires : goal.find_format-requires
find_format-requires c = format_asked _ _ _ _ c.format_copy-c.ensures
