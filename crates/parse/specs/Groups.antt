-- The next group of a body: how many characters it has, in how many bits, the most that it may be; and its characters.
use Rattle.std.specs.Prelude.{◌≡◌, cond, ◌⊎◌, List, [], ◌∷◌, ℕ, ◌/◌, ◌%◌, ◌≤◌, leb, eqb}
use Rattle.stream.specs.Stream.{character}
use Rattle.parse.specs.declared.Group.{Group}

-- "three digits as one number in 10 bits, two left in 7, one left in 4"; "a pair a, b as 45a + b in 11 bits, one left in 6"; "8 bits";
-- "Groups above 999, 99, 9 or, alphanumeric, above 2024, 44 are refusal 15"
unfoldable pub group_of : (mode left : ℕ) → Group
group_of mode left =
    cond (eqb mode 1)
    (cond (leb 3 left) (record { size = 3; width = 10; most = 999 })
    (cond (eqb left 2) (record { size = 2; width = 7; most = 99 }) (record { size = 1; width = 4; most = 9 })))
    (cond (eqb mode 2)
    (cond (leb 2 left) (record { size = 2; width = 11; most = 2024 }) (record { size = 1; width = 6; most = 44 }))
    (record { size = 1; width = 8; most = 255 }))

-- the characters of a group that is the number x
unfoldable pub group_characters : (mode size x : ℕ) → List ℕ
group_characters mode size x =
    cond (eqb size 3) (character (x / 100) ∷ character (x / 10 % 10) ∷ character (x % 10) ∷ [])
    (cond (eqb size 2)
    (cond (eqb mode 1) (character (x / 10) ∷ character (x % 10) ∷ []) (character (x / 45) ∷ character (x % 45) ∷ []))
    (cond (eqb mode 4) (x ∷ []) (character x ∷ [])))

-- a group in range
pub record InGroup (mode size x : ℕ) : Type 0 where
  pub sizes : (size ≡ 3) ⊎ (size ≡ 2) ⊎ (size ≡ 1)
  pub three : size ≡ 3 → x ≤ 999
  pub two : size ≡ 2 → mode ≡ 1 → x ≤ 99
  pub pair : size ≡ 2 → x ≤ 2024
  pub one : size ≡ 1 → (mode ≡ 4 → ⊥) → x ≤ 44
  pub byte : size ≡ 1 → x ≤ 255
