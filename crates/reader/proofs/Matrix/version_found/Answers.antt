-- `reader::Matrix::version_found` meets its contract: the copy is as it was read, and has few enough bits.
use Rattle.reader.proofs.Words.{version_asked}
use Rattle.reader.proofs.Matrix.version_found.Goals as goal

pub find_version-requires : goal.find_version-requires
find_version-requires c = version_asked _ _ _ _ c.requires.0 c.version_copy-c.ensures
