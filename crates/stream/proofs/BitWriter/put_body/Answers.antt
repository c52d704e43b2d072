-- The groups of digits and of pairs are what the body says.
use Rattle.std.proofs.Common.{rules}
use Rattle.stream.proofs.Bodies.{digits_room, pairs_room}
use Rattle.stream.proofs.BitWriter.put_body.Goals as goal

pub put_groups-requires : goal.put_groups-requires
put_groups-requires c = (search rules, (search rules, digits_room c.args.chars.now c.requires c.in-1.is))

pub put_groups-requires-in-2 : goal.put_groups-requires-in-2
put_groups-requires-in-2 c = (search rules, (search rules, pairs_room c.args.chars.now c.requires c.in-2.is))
