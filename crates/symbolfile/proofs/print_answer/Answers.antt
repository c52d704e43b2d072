-- `symbolfile::print_answer` meets its contract: what the reader tells or refuses is what is printed.
use Rattle.std.proofs.Common.{arith, ◌*◌}
use lib.Seq.{length-take-le}
use Rattle.promises.proofs.Lawful.{reads_lawful}
use Rattle.symbolfile.proofs.Told.{told}
use Rattle.symbolfile.proofs.print_answer.Goals as goal

pub print_reading-requires : goal.print_reading-requires
print_reading-requires c =
    let k = told _ _ _ _ _ c.requires.0 c.requires.1.0 c.read.auto.payload c.read.auto.list c.in-Ok.r c.in-Ok.ensures in (
      omega (arith, (reads_lawful _ _ _ _ _ _ _ _ _ _ k.reads).lawful.levels),
      (
        k.fills,
        (
          rw (length-take-le c.in-Ok.r.payload c.read.new.payload (omega (arith, k.payload_fits, c.read.auto.payload, c.requires.0))) k.payload_fits,
          (rw (length-take-le (2 * c.in-Ok.r.segments) c.read.new.list (omega (arith, k.list_fits, c.read.auto.list, c.requires.1.0))) k.list_fits, c.requires.1.1),
        ),
      ),
    )

pub returns-in-Ok : goal.returns-in-Ok
returns-in-Ok c =
    let k = told _ _ _ _ _ c.requires.0 c.requires.1.0 c.read.auto.payload c.read.auto.list c.in-Ok.r c.in-Ok.ensures in
    record { answer = _; reads = k.reads; holds = rw k.same_text at c.print_reading.ensures }
