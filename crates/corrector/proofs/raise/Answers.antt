-- `corrector::raise` meets its contract.
use Rattle.std.proofs.Common.{rules}
use Rattle.corrector.proofs.Late.{raised_made}
use Rattle.corrector.proofs.raise.Goals as goal

pub returns : goal.returns
returns c = raised_made c.args.a c.copy_from_slice.new.self c.args.k (search rules) c.requires c.copy_from_slice.ensures.after
