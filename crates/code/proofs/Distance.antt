-- "The code's distance, n + 1", once over n, and that at most one codeword stands for a block: the theory's statements about power sums, told of lists of codewords.
use mathlib.Core.Path.{◌≡◌, sym, ap, ◌∙◌}
use mathlib.Core.Logic.{inl, inr, ⊎_elim}
use mathlib.Core.List.{List}
use Prim.Native.Nat.{ℕ, ◌≤◌, ◌<◌}
use native.Mathlib.Omega.{arith}
use lib.ListN.{length, get_or}
use lib.Seq.{ext_get_or}
use Rattle.field.proofs.Byte.{Byte, val, elt, val_elt}
use Rattle.theory.proofs.Places.{Agree, psum}
use Rattle.theory.proofs.Distance as theory
use Rattle.theory.proofs.Gf.{gf256, locators, locators_apart}
use Rattle.code.specs.Code.{Codeword, Stands, differing}
use Rattle.code.specs.Theorems.{Distance, StandsOnly}
use Rattle.code.proofs.Bridge.{word, codeword_sums}
use Rattle.code.proofs.Places.{apart_places, length_apart, apart_agree, unread, wrong, length_unread, length_wrong, stands_agree}

-- bytes that are the same element are the same number
pub elt_same : (x y : ℕ) → x < 256 → y < 256 → elt x ≡ elt y → x ≡ y
elt_same x y hx hy e = sym (val_elt x hx) ∙ ap val e ∙ val_elt y hy

-- the power sums of a codeword of a given length vanish
sums : (N n : ℕ) (c : List ℕ) → length c ≡ N → Codeword n c → (i : ℕ) → i < n → psum gf256 N (locators N) (word c) i ≡ elt 0
sums N n c e k i h = ap (λ (m : ℕ). psum gf256 m (locators m) (word c) i) (sym e) ∙ codeword_sums k i h

-- two codewords of one length that differ in at most n places are equal
pub distance : Distance
distance n a b e m ka kb near =
    ext_get_or 0 a b e
    (λ j l.
    elt_same (get_or a j 0) (get_or b j 0) (ka.bytes j l) (kb.bytes j (omega arith))
    (theory.same gf256 (length a) (locators (length a)) (locators_apart (length a) m) (apart_places a b) (apart_agree a b)
    (λ i h.
    let few : i < n = omega (arith, length_apart a b) in
    codeword_sums ka i few ∙ sym (sums (length a) n b (sym e) kb i few)) j l))

flip : {N : ℕ} {U : List ℕ} {a b : ℕ → Byte} → Agree gf256 N U a b → Agree gf256 N U b a
flip g j l = ⊎_elim (λ e. inl (sym e)) inr (g j l)

-- two codewords that stand for one block are equal
stands_same : (n room : ℕ) (w flags c₁ c₂ : List ℕ) (t₁ e₁ t₂ e₂ : ℕ) → room ≤ n → length w ≤ 255
    → Stands n room w flags c₁ t₁ e₁ → Stands n room w flags c₂ t₂ e₂ → c₁ ≡ c₂
stands_same n room w flags c₁ c₂ t₁ e₁ t₂ e₂ r m s₁ s₂ =
    ext_get_or 0 c₁ c₂ (s₁.long ∙ sym s₂.long)
    (λ j l.
    elt_same (get_or c₁ j 0) (get_or c₂ j 0) (s₁.codeword.bytes j l) (s₂.codeword.bytes j (omega (arith, s₁.long, s₂.long)))
    (theory.unique gf256 (length w) (locators (length w)) (locators_apart (length w) m) n (unread flags) (wrong w flags c₁) (wrong w flags c₂)
    (flip (stands_agree w flags c₁)) (stands_agree w flags c₂)
    (omega (arith, length_unread flags, length_wrong w flags c₁, s₁.near, s₁.differs, s₁.missing))
    (omega (arith, length_unread flags, length_wrong w flags c₂, s₂.near, s₂.differs, s₂.missing))
    (sums (length w) n c₁ s₁.long s₁.codeword) (sums (length w) n c₂ s₂.long s₂.codeword) j (omega (arith, s₁.long))))

-- at most one codeword stands for a block, with one t and one e
pub stands_only : StandsOnly
stands_only n room w flags c₁ c₂ t₁ e₁ t₂ e₂ r m s₁ s₂ =
    let c : c₁ ≡ c₂ = stands_same n room w flags c₁ c₂ t₁ e₁ t₂ e₂ r m s₁ s₂ in
    (c, s₁.differs ∙ ap (differing w flags) c ∙ sym s₂.differs, s₁.missing ∙ sym s₂.missing)
