-- A block that stands for another codeword than the drawn one has many codewords changed: two codewords differ in n + 1 places, and at each of these
-- the block cannot be read or differs from one of the two.
use mathlib.Core.Path.{◌≡◌, sym, ap, ◌∙◌}
use mathlib.Core.Logic.{inl, inr, ⊎_elim, by_cases}
use mathlib.Core.List.Memᴰ
use mathlib.Core.List.{List, ◌++◌, Memᴰ}
use Prim.Native.Nat.{ℕ, ◌+◌, ◌-◌, ◌/◌, ◌≤◌, ◌<◌}
use native.Mathlib.Decide.{dec_le}
use native.Mathlib.Omega.{arith}
use lib.ListN.{length, get_or, length-append}
use lib.Seq.{ext_get_or}
use Rattle.field.proofs.Byte.{elt}
use Rattle.theory.proofs.Places.{Agree, psum}
use Rattle.theory.proofs.Distance as theory
use Rattle.theory.proofs.Gf.{gf256, locators, locators_apart}
use Rattle.code.specs.Code.{Codeword, differing, unreadable}
use Rattle.code.specs.Misread.{MisreadNeeds}
use Rattle.code.proofs.Bridge.{word, codeword_sums}
use Rattle.code.proofs.Places.{unread, wrong, length_unread, length_wrong, stands_agree}
use Rattle.code.proofs.Distance.{elt_same}

module _ (w flags c d : List ℕ) where
  -- where one of the two may differ from the block
  apart : List ℕ
  apart = unread flags ++ wrong w flags c ++ wrong w flags d

  apart_length : length apart ≡ unreadable flags + differing w flags c + differing w flags d
  unfolding apart
  apart_length = simp length-append (rw (length_unread flags, length_wrong w flags c, length_wrong w flags d))

  -- elsewhere the two agree
  apart_agree : Agree gf256 (length w) apart (word c) (word d)
  unfolding apart
  apart_agree j l =
      ⊎_elim
      (λ (p : word w j ≡ word c j). ⊎_elim (λ (q : word w j ≡ word d j). inl (sym p ∙ q)) (λ m. inr (right m)) (stands_agree w flags d j l))
      (λ m. inr (Memᴰ.append_left (wrong w flags d) m))
      (stands_agree w flags c j l)
    where
      right : Memᴰ j (unread flags ++ wrong w flags d) → Memᴰ j (unread flags ++ wrong w flags c ++ wrong w flags d)
      right m =
          ⊎_elim (λ x. Memᴰ.append_left (wrong w flags d) (Memᴰ.append_left (wrong w flags c) x)) (λ x. Memᴰ.append_right (unread flags ++ wrong w flags c) x)
          (Memᴰ.append_cases (unread flags) m)

-- the power sums of a codeword of a given length vanish
sums : (N n : ℕ) (c : List ℕ) → length c ≡ N → Codeword n c → (i : ℕ) → i < n → psum gf256 N (locators N) (word c) i ≡ elt 0
sums N n c e k i h = ap (λ (m : ℕ). psum gf256 m (locators m) (word c) i) (sym e) ∙ codeword_sums k i h

-- two codewords that differ from a block in few places are one
few_same : (n : ℕ) (w flags c d : List ℕ) → length w ≤ 255 → length c ≡ length w → length d ≡ length w → Codeword n c → Codeword n d
    → unreadable flags + differing w flags c + differing w flags d ≤ n → c ≡ d
few_same n w flags c d m lc ld kc kd near =
    ext_get_or 0 c d (lc ∙ sym ld)
    (λ j l.
    elt_same (get_or c j 0) (get_or d j 0) (kc.bytes j l) (kd.bytes j (omega (arith, lc, ld)))
    (theory.same gf256 (length w) (locators (length w)) (locators_apart (length w) m) (apart w flags c d) (apart_agree w flags c d)
    (λ i h.
    let few : i < n = omega (arith, apart_length w flags c d) in
    sums (length w) n c lc kc i few ∙ sym (sums (length w) n d ld kd i few)) j (omega (arith, lc))))

pub misread_needs : MisreadNeeds
misread_needs n room w flags drawn c t e m ld kd s other =
    by_cases (dec_le (n + 1) (differing w flags drawn + unreadable flags + (room - e) / 2)) (λ h. h)
    (λ h. absurd (other (few_same n w flags c drawn m s.long ld s.codeword kd (omega (arith, s.near, s.differs, s.missing)))))
