-- From the numbers of the code to the field of the theory: what a step of the code does is a step of the run.
use mathlib.Core.Path.{◌≡◌, refl, sym, ap, ◌∙◌, subst, subst₃, fun_ext}
use mathlib.Core.Logic.{◌≢◌}
use mathlib.Core.List.{List, ◌∷◌}
use Prim.Native.Nat.{ℕ, zero, suc, ◌+◌, ◌-◌, ◌≤◌, ◌<◌}
use native.Mathlib.Numerals.{add-one}
use native.Mathlib.Omega.{arith}
use lib.ListN.{replicate}
use Rattle.field.specs.Field.{mul_n, inv_n}
use native.Mathlib.Fin
use Rattle.field.proofs.Byte.{val, elt, inv, elt_mul, val_elt}
use Rattle.field.proofs.Laws.{inv_lt}
use Rattle.theory.proofs.Run.{act, one, mix, Run}
use Rattle.theory.proofs.Massey.{start, keep, mend, grow}
use Rattle.theory.proofs.Gf.{gf256}
use Rattle.corrector.specs.Lanes.{filled, times_plus, raised, poly, Running}
use Rattle.corrector.proofs.Rows.{Row, mixed_poly, zeros_at}
open gf256 use {◌⊕◌, ◌⊗◌, 𝟘, 𝟙}

pub elt_inv : (x : ℕ) → x < 256 → elt (inv_n x) ≡ inv (elt x)
unfolding inv
elt_inv x h = Fin.val_path (val_elt (inv_n x) (inv_lt x h) ∙ sym (ap inv_n (val_elt x h)))

-- what the code has seen of a run where the polynomial is d on the next window
pub record Seen (s a b : List ℕ) (i l e d : ℕ) : Type 0 where
  pub ra : Row a
  pub rb : Row b
  pub be : e < 256
  pub bd : d < 256
  pub small : i + l < 30
  pub run : Running s i l a b e
  pub disc : elt d ≡ act gf256 32 (poly a) (poly s) i

module _ {s a b : List ℕ} {i l e d : ℕ} (c : Seen s a b i l e d) where
  pub running_keep : d ≡ 0 → Running s (i + 1) l a b e
  running_keep z = rw add-one (keep gf256 32 (poly s) c.run (elt d) (sym c.disc) (ap elt z))

  quotient : (q : ℕ) → q ≡ mul_n d (inv_n e) → elt q ≡ elt d ⊗ inv (elt e)
  quotient q p = ap elt p ∙ elt_mul d (inv_n e) c.bd ∙ ap (λ x. elt d ⊗ x) (elt_inv e c.be)

  pub running_mend : (q : ℕ) (r : List ℕ) → q ≡ mul_n d (inv_n e) → i < l → r ≡ times_plus (raised b (l - 1 - i)) (filled q) (raised a 0) → Running s (i + 1) l r b e
  running_mend q r p m x =
      rw
      add-one
      (subst
      (λ y. Run gf256 32 (poly s) (suc i) l y (poly b) (elt e))
      (fun_ext (λ h. ap (λ y. mix gf256 0 (l - 1 - i) y (poly a) (poly b) h) (sym (quotient q p)) ∙ mixed_poly a b 0 (l - 1 - i) q (suc l) (suc i) c.ra c.rb c.run.monic.below c.run.below (omega arith) (omega arith) h ∙ ap (λ t. poly t h) (sym x)))
      (mend gf256 32 (poly s) c.run (elt d) (sym c.disc) (l - 1 - i) (omega arith) (omega arith)))

  pub running_grow : (q : ℕ) (r : List ℕ) → q ≡ mul_n d (inv_n e) → l ≤ i → d ≢ 0 → r ≡ times_plus (raised b 0) (filled q) (raised a (i + 1 - l)) → Running s l (i + 1) r a d
  running_grow q r p m z x =
      rw
      add-one
      (subst
      (λ y. Run gf256 32 (poly s) l (suc i) y (poly a) (elt d))
      (fun_ext (λ h. ap (λ y. mix gf256 (i + 1 - l) 0 y (poly a) (poly b) h) (sym (quotient q p)) ∙ mixed_poly a b (i + 1 - l) 0 q (suc l) (suc i) c.ra c.rb c.run.monic.below c.run.below (omega arith) (omega arith) h ∙ ap (λ t. poly t h) (sym x)))
      (grow gf256 32 (poly s) c.run (elt d) (sym c.disc) (i + 1 - l) (omega arith) (omega arith) (λ y. z (sym (val_elt d c.bd) ∙ ap val y ∙ val_elt 0 (omega arith)))))

one_poly : (n k : ℕ) → one gf256 k ≡ poly (1 ∷ replicate n 0) k
unfolding one
one_poly n zero = refl
one_poly n (suc k) = sym (ap elt (zeros_at n k))

pub running_start : (s : List ℕ) → Running s 0 0 (1 ∷ replicate 31 0) (replicate 32 0) 1
running_start s =
    subst₃ (Run gf256 32 (poly s) 0 0) (fun_ext (one_poly 31)) (fun_ext (λ k. sym (ap elt (zeros_at 32 k)))) refl (start gf256 32 (poly s))

pub inverse_start : 1 ≡ inv_n 1
unfolding inv_n
inverse_start = refl
