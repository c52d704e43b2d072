-- Each piece that the file goes on behind is of more bytes than were held.
use Rattle.std.proofs.Common.{arith}
use Rattle.load.proofs.load.Goals as goal

pub loop-held-smaller : goal.loop-held-smaller
loop-held-smaller g c =
    let more = rw c.in-Behind.is at c.in_ok-held.ensures.held in
    omega (arith, more.0, more.1, c.in_ok-held.ensures.long)
