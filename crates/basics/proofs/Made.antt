-- An array that `std::array::from_fn` makes by a closure that gives h of the place and stays as it is: it is `build h n`.
--     made    the clause `items` of the call, told as `build`; each call's fact is `λ i r f' k. search rules`
use mathlib.Core.Path.{◌≡◌, sym, subst, ◌∙◌}
use mathlib.Core.Logic.{by_cases}
use mathlib.Core.List.{List}
use Prim.Native.Nat.{ℕ, zero, suc, ◌+◌, ◌≤◌, ◌<◌}
use native.Mathlib.Decide.{ℕ_discrete}
use native.Mathlib.Omega.{arith}
use lib.ListN.{get_or}
use lib.Seq.{ext_get_or}
use Rattle.std.specs.Fn.{Mut, Called}
use Rattle.std.specs.Array.{IsFromFnResultFrom, IsFromFnResult}
use Rattle.basics.specs.Build.{build}
use Rattle.basics.proofs.Build.{build_get, build_length}

module _ {F : Type 0} (g : Mut F (ℕ × Unit {0}) ℕ) (f : F) (h : ℕ → ℕ) (call : (i r : ℕ) (f' : F) → Called g f (i, tt) r f' → (r ≡ h i) × (f' ≡ f)) where
  made_at : (ys : List ℕ) (i n k : ℕ) → IsFromFnResultFrom g f ys i n → i ≤ k → k < i + n → get_or ys k 0 ≡ h k
  made_at ys i zero k r l m = absurd (omega arith)
  made_at ys i (suc n) k r l m =
      by_cases (ℕ_discrete k i) (λ (e : k ≡ i). rw e (r.2.1 0 ∙ (call i r.1 r.0 r.3).0))
      (λ e. made_at ys (i + 1) n k (subst (λ q. IsFromFnResultFrom g q ys (i + 1) n) (call i r.1 r.0 r.3).1 r.4) (omega arith) (omega arith))

  pub made : (ys : List ℕ) (n : ℕ) → IsFromFnResult g f ys n → ys ≡ build h n
  made ys n r =
      ext_get_or 0 ys (build h n) (r.long ∙ sym (build_length h n))
      (λ k l. made_at ys 0 n k r.each (omega arith) (omega (arith, r.long)) ∙ sym (build_get h n k (omega (arith, r.long))))
