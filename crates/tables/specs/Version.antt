-- What the length of a matrix says of its version.
use Rattle.std.specs.Prelude.{◌≡◌, ℕ, zero, suc, ◌*◌, ◌≤◌, Option, None, Some}
use Rattle.tables.specs.Tables.{side, last_version}

-- the paper's number and value for each case: no refusal and the version, or refusal 7, which "carries its number and zeros"
abbrev pub fixed_refusal : Option ℕ → ℕ
fixed_refusal (Some v) = 0
fixed_refusal None = 7

abbrev pub fixed_version : Option ℕ → ℕ
fixed_version (Some v) = v
fixed_version None = 0

-- a length "s·s for a version 1 to 10"
pub record Square (n v : ℕ) : Type 0 where
  pub least : 1 ≤ v
  pub most : v ≤ last_version
  pub long : n ≡ side v * side v

-- with no refusal, "side length fixes the version"; refused is a length that "is not s·s for a version 1 to 10"
abbrev pub FixedBy : (n refusal version : ℕ) → Type 0
FixedBy n zero version = Square n version
FixedBy n (suc k) version = (v : ℕ) → Square n v → ⊥

abbrev pub Fixes : (n : ℕ) → Option ℕ → Type 0
Fixes n r = FixedBy n (fixed_refusal r) (fixed_version r)
