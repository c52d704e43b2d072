-- `reader::Symbol::finish` meets its contract: the blocks decide, and then the stream.
use Rattle.std.proofs.Common.{refl, Ok, Err}
use Rattle.std.proofs.lemmas.Result.{err_from_is_err_and}
use Rattle.reader.proofs.Data.{within_long}
use Rattle.reader.proofs.Telling.{beyond, told}
use Rattle.reader.proofs.Symbol.finish.Goals as goal

pub returns-in_err-sums : goal.returns-in_err-sums
returns-in_err-sums c =
    let p = err_from_is_err_and c.from_residual.result c.from_residual.ensures.1 in
    rw (p.1, p.2) (beyond _ _ _ _ _ _ _ c.in_err-sums.ensures)

pub parse-requires : goal.parse-requires
parse-requires c = (within_long _ _ _ _ _ c.args.self.lawful c.in_ok-sums.ensures, c.requires.most_payload_in_bounds)

pub returns-in_err-sizes : goal.returns-in_err-sizes
returns-in_err-sizes c =
    let p = err_from_is_err_and c.from_residual-in_err-sizes.result c.from_residual-in_err-sizes.ensures.1 in
    rw (p.1, p.2) (told _ _ _ _ _ _ _ _ c.in_ok-sums.ensures (Err c.in_err-sizes.field-0.0) _ _ c.in_err-sizes.ensures _ refl)

pub returns : goal.returns
returns c = told _ _ _ _ _ _ _ _ c.in_ok-sums.ensures (Ok c.in_ok-sizes.sizes) _ _ c.in_ok-sizes.ensures _ refl
