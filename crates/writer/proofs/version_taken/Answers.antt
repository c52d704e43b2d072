-- `writer::version_taken` meets its contract.
use Rattle.std.proofs.Common.{sym, ◌∙◌}
use Rattle.writer.proofs.Fit.{taken_where}
use Rattle.writer.proofs.version_taken.Goals as goal

pub returns : goal.returns
returns c = c.then_some.ensures ∙ taken_where c.args.level c.args.version c.args.list.now c.fits.result c.if-version-eq0.false (sym c.fits.ensures)
