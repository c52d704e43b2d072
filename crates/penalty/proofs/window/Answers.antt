-- `penalty::window` meets its contract.
use Rattle.std.proofs.Common.{rules, ◌∙◌}
use Rattle.basics.proofs.Made.{made}
use Rattle.penalty.proofs.Lines.{built_line}
use Rattle.penalty.proofs.window.Goals as goal

pub returns : goal.returns
returns g c = made _ _ _ (λ i r f' k. search rules) c.from_fn.result g.row.N c.from_fn.ensures.items ∙ built_line c.args.m.now c.args.start c.args.stride g.row.N
