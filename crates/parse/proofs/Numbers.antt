-- A fault of the stream is 13, 14 or 15, and no two faults have one number.
use mathlib.Core.Path.{◌≡◌, refl, sym, ap, ◌∙◌}
use mathlib.Core.Bool.{cond}
use mathlib.Core.Logic.{⊎_elim}
use mathlib.Core.List.{List}
use Prim.Native.Nat.{ℕ, ◌≤◌}
use native.Mathlib.Omega.{arith}
use lib.Dec.{eqb}
use Rattle.std.specs.Prelude.{Result, Ok, Err}
use Rattle.parse.specs.declared.Sizes.{Sizes}
use Rattle.parse.specs.declared.Fault as declared
use Rattle.parse.specs.declared.Fault.TheVariants.{UnknownMode, RunsPast, OutOfRange}
use Rattle.parse.specs.Answer.{fault_number, by_number}
use Rattle.parse.specs.Parse.{Fault, message}
use Rattle.parse.proofs.Refused.{stream_refused}

abbrev pub InStream : ℕ → Type 0
InStream k = (13 ≤ k) × (k ≤ 15)

-- what the data codewords hold, where that is a fault
pub fault_numbers : (v k : ℕ) (codewords : List ℕ) → message v codewords ≡ Fault k → InStream k
fault_numbers v k codewords e =
    ⊎_elim (λ q. (omega arith, omega arith)) (⊎_elim (λ q. (omega arith, omega arith)) (λ q. (omega arith, omega arith)))
    ((stream_refused v codewords).others k e)

-- the fault with this number
pub fault_at : ℕ → declared.Fault
fault_at n = cond (eqb n 13) UnknownMode (cond (eqb n 14) RunsPast OutOfRange)

pub numbered : (f : declared.Fault) → fault_at (fault_number f) ≡ f
unfolding fault_at
numbered UnknownMode = refl
numbered RunsPast = refl
numbered OutOfRange = refl

-- so no two different answers satisfy the promise of `parse`
pub by_number_only : (r r₁ : Result Sizes declared.Fault) → by_number r ≡ by_number r₁ → r ≡ r₁
by_number_only (Ok x) (Ok y) e = cc
by_number_only (Ok x) (Err y) e = cc
by_number_only (Err x) (Ok y) e = cc
by_number_only (Err x) (Err y) e =
    let same : fault_number x ≡ fault_number y = cc in
    ap Err (sym (numbered x) ∙ ap fault_at same ∙ numbered y)
