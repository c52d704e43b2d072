-- Document 01's examples of the code, computed: the checks of case a, and case g.
use mathlib.Core.Path.{◌≡◌, refl}
use mathlib.Core.List.{[], ◌∷◌, map}
use Rattle.field.specs.Field.{mul_n, pow_n}
use Rattle.code.specs.Code.{generator, plus, divided, lower, checks}

-- a. "data 10 20 0C 56 61 80 EC 11 EC 11 EC 11 EC 11 EC 11, checks A5 24 D4 C1 ED 36 C7 87 2C 55"
pub case_a : checks 10 (0x10 ∷ 0x20 ∷ 0x0C ∷ 0x56 ∷ 0x61 ∷ 0x80 ∷ 0xEC ∷ 0x11 ∷ 0xEC ∷ 0x11 ∷ 0xEC ∷ 0x11 ∷ 0xEC ∷ 0x11 ∷ 0xEC ∷ 0x11 ∷ [])
    ≡ 0xA5 ∷ 0x24 ∷ 0xD4 ∷ 0xC1 ∷ 0xED ∷ 0x36 ∷ 0xC7 ∷ 0x87 ∷ 0x2C ∷ 0x55 ∷ []
unfolding checks divided lower generator plus mul_n pow_n
case_a = refl

-- g. "n = 7: generator exponents 0, 87, 229, 146, 149, 238, 102, 21"
pub case_g : generator 7 ≡ map pow_n (0 ∷ 87 ∷ 229 ∷ 146 ∷ 149 ∷ 238 ∷ 102 ∷ 21 ∷ [])
unfolding generator plus mul_n pow_n
case_g = refl
