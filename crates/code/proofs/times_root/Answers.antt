-- `code::times_root` meets its contract: the closure gives each coefficient.
use Rattle.std.proofs.Common.{rules, tests, arith}
use Rattle.basics.proofs.Made.{made}
use Rattle.code.specs.Lanes.{rooted}
use Rattle.code.proofs.Lanes.{rooted_first, rooted_later}
use Rattle.code.proofs.times_root.Goals as goal

pub returns : goal.returns
returns c = made _ _ (rooted c.args.g c.args.a) (λ k v f call. (grind (arith, tests, rooted_first, rooted_later), search rules)) _ 33 c.from_fn.ensures.items
