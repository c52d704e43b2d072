-- `tables::room` meets its contract.
use Rattle.tables.specs.Tables.{room}
use Rattle.tables.proofs.room.Goals as goal

pub returns : goal.returns
unfolding room
returns c = c.checks.ensures
