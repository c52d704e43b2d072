-- `reader::Matrix::find_format` meets its contract: each of the five cases is one law.
use Rattle.reader.proofs.Words.{neither, by_second, by_first, by_both, different}
use Rattle.reader.proofs.Matrix.find_format.Goals as goal

pub returns-in-None-None : goal.returns-in-None-None
returns-in-None-None c =
    let k = c.in-None-None in
    neither _ _ (rw k.is-0 at c.format_found-first.ensures) (rw k.is-1 at c.format_found-second.ensures)

pub returns-in-None-Some : goal.returns-in-None-Some
returns-in-None-Some c =
    let k = c.in-None-Some in
    by_second _ _ _ _ (rw k.is-0 at c.format_found-first.ensures) (rw k.is-1 at c.format_found-second.ensures) c.meta_of.ensures

pub returns-in-Some-None : goal.returns-in-Some-None
returns-in-Some-None c =
    let k = c.in-Some-None in
    by_first _ _ _ _ (rw k.is-0 at c.format_found-first.ensures) (rw k.is-1 at c.format_found-second.ensures) c.meta_of-in-Some-None.ensures

pub returns-then-x-y : goal.returns-then-x-y
returns-then-x-y c =
    let k = c.in-Some-Some in
    by_both _ _ _ _ _ (rw k.is-0 at c.format_found-first.ensures) (rw k.is-1 at c.format_found-second.ensures) c.if-x-y.true c.meta_of-then-x-y.ensures

pub returns-else-x-y : goal.returns-else-x-y
returns-else-x-y c =
    let k = c.in-Some-Some in
    different _ _ _ _ (rw k.is-0 at c.format_found-first.ensures) (rw k.is-1 at c.format_found-second.ensures) c.if-x-y.false
