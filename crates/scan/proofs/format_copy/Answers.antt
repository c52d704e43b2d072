-- `scan::format_copy` meets its contract.
use Rattle.std.proofs.Common.{◌≡◌, get_or, arith, rules}
use Rattle.modules.specs.Modules.{format_places}
use Rattle.modules.proofs.Geometry.{word_places}
use Rattle.scan.proofs.Copies.{format_length}
use Rattle.scan.proofs.format_copy.Goals as goal

pub copy_at-requires-clause-within : goal.copy_at-requires-clause-within
copy_at-requires-clause-within c =
    λ b p h k.
    let at : p ≡ get_or (format_places c.args.v c.args.copy) b 0 = search rules in
    omega (arith, (word_places c.args.v c.requires.0 c.requires.1.0).format_inside c.args.copy b c.requires.1.1.0 h)

pub returns : goal.returns
returns c =
    c.copy_at.ensures (format_places c.args.v c.args.copy) (format_length c.args.v c.args.copy) (λ b p h k. search rules)
