-- `corrector::Block::grouped` meets its contract.
use Prim.Native.Nat.{ℕ, ◌-◌, ◌<◌}
use mathlib.Core.Path.{◌≡◌}
use mathlib.Core.List.{List}
use lib.ListN.{length, get_or}
use Rattle.field.specs.Field.{pow_n}
use Rattle.theory.proofs.Run.{eval}
use Rattle.theory.proofs.Gf.{gf256}
use Rattle.corrector.specs.Lanes.{poly}
use Rattle.corrector.specs.Places.{Found}
use Rattle.corrector.proofs.Block.grouped.Given as goal

abbrev pub invariant-loop-i : goal.invariant-loop-i
invariant-loop-i l = (a : List ℕ) → ((i : ℕ) → i < l.many → poly l.vs i ≡ eval gf256 32 (poly a) (poly l.xs i))
    → ((i : ℕ) → i < l.many → get_or l.xs i 0 ≡ pow_n (length l.self.flags.now - (l.top - i)))
    → Found l.self.flags.now a l.top l.initial.list.at l.initial.list.xs l.initial.list.count → Found l.self.flags.now a (l.top - l.i) l.list.at l.list.xs l.list.count
