-- `code::horner` meets its contract: the closure gives each value.
use borrow.Author.Rules.{rules}
use Rattle.basics.proofs.Made.{made}
use Rattle.code.specs.Lanes.{hornered}
use Rattle.code.proofs.horner.Goals as goal

pub returns : goal.returns
unfolding hornered
returns c = made _ _ (hornered c.args.s c.args.p c.args.c) (λ k v f call. search rules) _ 32 c.from_fn.ensures.items
