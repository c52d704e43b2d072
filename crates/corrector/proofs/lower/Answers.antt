-- `corrector::lower` meets its contract.
use Rattle.std.proofs.Common.{rules}
use Rattle.corrector.proofs.Late.{lowered_made}
use Rattle.corrector.proofs.lower.Goals as goal

pub returns : goal.returns
returns c = lowered_made c.args.a c.copy_from_slice.new.self c.args.i (search rules) c.requires c.copy_from_slice.ensures.after
