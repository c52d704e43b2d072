-- The definitions against two independent programs: the order of the data modules, and the colour of every module, version by version.
use mathlib.Core.Path.{◌≡◌, refl}
use mathlib.Core.List.{List, [], ◌∷◌, map}
use Prim.Native.Nat.{ℕ, ◌+◌, ◌*◌, ◌/◌, ◌%◌}
use Rattle.basics.specs.Lists.{from, up_to}
use Rattle.tables.specs.Tables.{side}
use Rattle.modules.specs.Modules.{order, module_of, colour}
use Rattle.modules.proofs.Open.{every}

-- a number that two different lists hardly share
digest : ℕ → List ℕ → ℕ
digest h [] = h
digest h (x ∷ xs) = digest ((h * 4099 + x + 1) % 1000003) xs

orders : map (λ v. digest 0 (order v)) (from 1 10)
    ≡ 955855 ∷ 617383 ∷ 849794 ∷ 559180 ∷ 644266 ∷ 798402 ∷ 731115 ∷ 452596 ∷ 850526 ∷ 556315 ∷ []
unfolding every digest
orders = refl

-- data modules light, level M, mask 5
bare : ℕ → List ℕ
bare v = map (λ p. colour v 1 5 (module_of v (p / side v) (p % side v)) 0 0) (up_to (side v * side v))

colours : map (λ v. digest 0 (bare v)) (from 1 10)
    ≡ 293992 ∷ 280209 ∷ 872646 ∷ 179295 ∷ 875350 ∷ 507930 ∷ 113582 ∷ 320729 ∷ 685219 ∷ 117076 ∷ []
unfolding every digest bare
colours = refl
