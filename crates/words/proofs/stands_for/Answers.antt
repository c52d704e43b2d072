-- `words::stands_for` meets its contract.
use Rattle.std.proofs.Common.{rules}
use Rattle.std.proofs.lemmas.Nat.{ones-le}
use Rattle.words.proofs.Distance.{is_near, not_near}
use Rattle.words.proofs.stands_for.Goals as goal

pub overflow_sub-result : goal.overflow_sub-result
overflow_sub-result c = ones-le c.args.bits c.args.readable c.requires.1

pub returns : goal.returns
returns c = search (rules, is_near, not_near)
