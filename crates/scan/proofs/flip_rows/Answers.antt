-- `scan::flip_rows` meets its contract.
use Rattle.std.proofs.Common.{rules}
use Rattle.basics.proofs.Made.{made}
use Rattle.tables.specs.Tables.{most_side}
use Rattle.scan.proofs.flip_rows.Goals as goal

pub returns : goal.returns
returns c = made _ _ _ (λ i r f' k. search rules) c.from_fn.result most_side c.from_fn.ensures.items
