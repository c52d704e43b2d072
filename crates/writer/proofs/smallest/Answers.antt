-- `writer::smallest` meets its contract.
use Rattle.std.proofs.Common.{sym, ◌∙◌, arith}
use Rattle.writer.proofs.Fit.{taken_found, taken_nowhere}
use Rattle.writer.proofs.smallest.Goals as goal

pub returns-then-fits : goal.returns-then-fits
returns-then-fits c =
    taken_found c.args.level c.loop-v.v c.args.list.now (omega arith) (omega arith) (sym c.fits.ensures ∙ c.if-fits.true) c.loop-v.invariant

pub returns : goal.returns
returns c = taken_nowhere c.args.level c.args.list.now (λ k l m. c.loop-v.invariant k l (omega arith))

pub loop-v-init : goal.loop-v-init
loop-v-init c = λ k l m. absurd (omega arith)
