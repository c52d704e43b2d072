-- A word is a codeword where its syndromes are zeros, and the counts are within the block's length.
use mathlib.Core.Path.{◌≡◌, refl, sym, ap, ap₂, subst, ◌∙◌}
use mathlib.Core.Bool.{Bool, true, false, not, ◌&&◌}
use mathlib.Core.Logic.{by_cases}
use mathlib.Core.List.{List}
use Prim.Native.Nat.{ℕ, zero, suc, ◌+◌, ◌≤◌}
use native.Mathlib.Decide.{dec_lt}
use native.Mathlib.Omega.{arith}
use lib.Dec.{eqb}
use lib.ListN.{length, get_or, take}
use lib.Seq.{ext_get_or, get_or-take, length-take-le}
use borrow.Author.Tests.{eq-eqb}
use Rattle.std.specs.Str.{bytes_eq}
use Rattle.std.proofs.lemmas.Slice.Eq.{bytes_eq-Decides}
use Rattle.basics.specs.Sums.{sum, one, tally}
use Rattle.code.specs.Code.{Codeword, Stands, syndromes_of, differing, unreadable}
use Rattle.code.specs.Lanes.{lanes, padded}
use Rattle.code.proofs.Bridge.{Bytes, syndromes_get, syndromes_zero}
use Rattle.corrector.specs.Correct.{Proposed, Tested}
use Rattle.corrector.specs.Lanes.{filled}
use Rattle.corrector.proofs.Rows.{zeros_at}
use Rattle.std.specs.Prelude.{None}
use Rattle.basics.proofs.Sums.{tally_le}

module _ {n : ℕ} {c s : List ℕ} (few : n ≤ 30) (e : s ≡ padded lanes (syndromes_of n c)) where
  pub zeros_codeword : s ≡ filled 0 → Bytes c → Codeword n c
  unfolding filled
  zeros_codeword z b = record { bytes = b; zeros = λ i l. sym (syndromes_get n i c l) ∙ ap (λ t. get_or t i 0) (sym e ∙ z) ∙ zeros_at 32 i }

  pub codeword_zeros : length s ≡ 32 → Codeword n c → s ≡ filled 0
  unfolding filled
  codeword_zeros l k =
      ext_get_or 0 s (filled 0) l
      (λ i h. ap (λ t. get_or t i 0) e ∙ by_cases (dec_lt i n) (λ m. syndromes_get n i c m ∙ k.zeros i m) (λ m. syndromes_zero n i c (omega arith)) ∙ sym (zeros_at 32 i))

-- what the test of two rows answers
pub equal_rows : (a b : List ℕ) → false ≡ not (bytes_eq a b) → a ≡ b
equal_rows a b e = (bytes_eq-Decides a b).0 (flipped (bytes_eq a b) e)
  where
    flipped : (r : Bool) → false ≡ not r → r ≡ true
    flipped true e = refl
    flipped false e = e

pub unequal_rows : (a b : List ℕ) → true ≡ not (bytes_eq a b) → a ≡ b → ⊥
unequal_rows a b e p = let z : true ≡ false = e ∙ ap not ((bytes_eq-Decides a b).1 p) in let z' : ◌≡◌ {A = ℕ} 1 0 = ap one z in omega arith

pub differing_most : (w flags c : List ℕ) → differing w flags c ≤ length w
unfolding differing
differing_most w flags c = tally_le (length w) _

pub unreadable_most : (flags : List ℕ) → unreadable flags ≤ length flags
unfolding unreadable
unreadable_most flags = tally_le (length flags) _

-- ---- what the corrector answers

none_passes : (test : ℕ → Bool) → ((j : ℕ) → test j ≡ false) → (n : ℕ) → tally n test ≡ 0
unfolding tally sum
none_passes test e zero = refl
none_passes test e (suc n) = ap₂ (λ x y. x + y) (none_passes test e n) (ap one (e n))

none_differs : (w flags : List ℕ) → differing w flags w ≡ 0
unfolding differing
none_differs w flags = none_passes _ (λ j. ap (λ b. eqb (get_or flags j 0) 0 && not b) (eq-eqb (get_or w j 0) (get_or w j 0) refl) ∙ last (eqb (get_or flags j 0) 0)) (length w)
  where
    last : (b : Bool) → b && false ≡ false
    last true = refl
    last false = refl

-- a block whose syndromes are zeros and whose codewords are all readable stands for itself
pub clean : {n room : ℕ} {w flags s : List ℕ} {e : ℕ} → n ≤ 30 → s ≡ padded lanes (syndromes_of n w) → s ≡ filled 0 → Bytes w
    → e ≡ unreadable flags → e ≡ 0 → Stands n room w flags w 0 0
clean {flags = flags} few p z b q y = record {
  codeword = zeros_codeword few p z b;
  long = refl;
  differs = sym (none_differs _ flags);
  missing = sym y ∙ q;
  near = omega arith;
}

-- the word proposed is the one that the block stands for, so where it does not pass the test, none does
module _ (n room : ℕ) (w flags fixed : List ℕ) (small : room ≤ n) (short : length w ≤ 255) (long : length fixed ≡ 255) (p : Proposed n w flags fixed) where
  is_proposed : {c : List ℕ} {t e : ℕ} → Stands n room w flags c t e → c ≡ take (length w) fixed
  is_proposed {c} {t} {e} st =
      ext_get_or 0 c (take (length w) fixed) (st.long ∙ sym (length-take-le (length w) fixed (omega arith)))
      (λ j l. sym (get_or-take (length w) fixed j 0 (omega (arith, st.long)) ∙ p room c t e small st j (omega (arith, st.long))))

  pub none : Tested n room w flags (take (length w) fixed) None → (c : List ℕ) (t e : ℕ) → Stands n room w flags c t e → ⊥
  none failed c t e st = failed t e (subst (λ d. Stands n room w flags d t e) (is_proposed st) st)
