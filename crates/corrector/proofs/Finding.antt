-- The corrector finds the codeword that a block stands for: the run's polynomial has every wrong place for a root, so the suspected places hold all the damage and are few,
-- and the values that the sums give at them are the damage. The theory's `covers`, `fits` and `magnitude`, told of the rows that the code computes.
use mathlib.Core.Path.{◌≡◌, refl, sym, ap, ap₂, ◌∙◌, subst}
use mathlib.Core.Logic.{◌⊎◌, inl, inr, ⊎_elim, by_cases}
use mathlib.Core.Bool.{Bool, true, false, not, ◌||◌, ◌&&◌}
use mathlib.Core.List.Memᴰ
use mathlib.Core.List.{List, ◌++◌, append-nil, Memᴰ}
use Prim.Native.Nat.{ℕ, ◌+◌, ◌-◌, ◌≤◌, ◌<◌}
use native.Mathlib.Decide.{dec_lt}
use native.Mathlib.Omega.{arith}
use Rattle.basics.specs.Sums.{one}
use lib.Dec.{T, eqb}
use lib.ListN.{length, get_or, take, length-append}
use lib.Seq.{length-take-le}
use borrow.Author.Tests.{eqb-true, eq-eqb}
use Rattle.field.proofs.Byte.{Byte, val, elt, inv, elt_add, elt_val, val_elt}
use Rattle.theory.proofs.Run.{eval, Roots, Monic}
use Rattle.theory.proofs.Places.{Apart, Agree, psum, erase_all}
use Rattle.theory.proofs.Algebra.{⊕_zero, ⊕_self, ⊕_cancel}
use Rattle.theory.proofs.Distance.{psum-⊕}
use Rattle.theory.proofs.Erase.{erase_all_window}
use Rattle.theory.proofs.Complete.{covers, fits}
use Rattle.theory.proofs.Gf.{gf256, locators, locators_apart}
use Rattle.theory.proofs.Values.{product, product_monic, product_root, evaluator, slope, magnitude}
use Rattle.code.specs.Code.{Stands, unreadable}
use Rattle.code.proofs.Bridge.{word, codeword_sums, syndromes_sum}
use Rattle.code.proofs.Places.{places_has, wrong, length_wrong}
use Rattle.code.proofs.Distance.{elt_same}
use Rattle.corrector.specs.Lanes.{poly, Running}
use Rattle.corrector.specs.Places.{picked, marked, suspect, Erased, Found, Mended, Magnitudes}
use Rattle.corrector.specs.Correct.{Asked}
use Rattle.corrector.proofs.Picked.{picked_has, picked_is, picked_length, picked_roots, picked_either, taken_at, taken_has}
open gf256 use {◌⊕◌, ◌⊗◌, 𝟘}

false_true : false ≡ true → ⊥
false_true e = let z : ◌≡◌ {A = ℕ} 0 1 = ap one e in omega arith

true_T : {b : Bool} → b ≡ true → T b
true_T e = subst (λ b. T b) (sym e) tt

or_left : (a b : Bool) → a ≡ true → a || b ≡ true
or_left true b e = refl
or_left false b e = absurd (false_true e)

or_right : (a b : Bool) → b ≡ true → a || b ≡ true
or_right true b e = refl
or_right false b e = e

and_right : (a b : Bool) → a && b ≡ true → b ≡ true
and_right true b e = e
and_right false b e = absurd (false_true e)

-- what the code knows once it has listed the suspected places of a block
pub record Traced (w flags s left a b : List ℕ) (n e i l f : ℕ) (at xs : List ℕ) (count : ℕ) : Type 0 where
  pub flagged : length flags ≡ length w
  pub short : length flags ≤ 255
  pub asked : Asked w flags s n e
  pub folded : Erased s flags left
  pub run : Running left i l a b f
  pub whole : i + l ≡ n - e
  pub found : Found flags a 0 at xs count

module _ {w flags s left a b : List ℕ} {n e i l f : ℕ} {at xs : List ℕ} {count : ℕ} (k : Traced w flags s left a b n e i l f at xs count) where
  abbrev N : ℕ
  N = length flags

  abbrev X : ℕ → Byte
  X = locators (length flags)

  abbrev unreadables : List ℕ
  unreadables = picked (marked flags) (length flags)

  abbrev listed : List ℕ
  listed = picked (suspect flags a) (length flags)

  -- the sums of the block's word
  sums : (h : ℕ) → h < n → poly s h ≡ psum gf256 N X (word w) h
  sums h l = ap (λ t. poly t h) k.asked.sums ∙ syndromes_sum n h w l k.asked.bytes ∙ ap (λ m. psum gf256 m (locators m) (word w) h) (sym k.flagged)

  missing : length unreadables ≡ e
  unfolding marked unreadable
  missing = picked_length (marked flags) N ∙ sym k.asked.missing

  root_listed : (j : ℕ) → j < N → eval gf256 32 (poly a) (X j) ≡ 𝟘 → Memᴰ j listed
  unfolding suspect
  root_listed j l z = picked_has (suspect flags a) N j l (or_right (marked flags j) _ (eq-eqb _ 0 (ap val z ∙ val_elt 0 (omega arith))))

  mark_listed : (j : ℕ) → Memᴰ j unreadables → Memᴰ j listed
  unfolding suspect
  mark_listed j m = let r = picked_is (marked flags) N j m in picked_has (suspect flags a) N j r.0 (or_left (marked flags j) _ r.1)

  -- the roots among the readable places
  abbrev readable_root : ℕ → Bool
  readable_root j = not (marked flags j) && eqb (val (eval gf256 32 (poly a) (locators (length flags) j))) 0

  roots_are : Roots gf256 32 X (poly a) N (picked readable_root N)
  roots_are =
      picked_roots readable_root gf256 32 X (poly a) N
      (λ j l t. sym (elt_val _) ∙ ap elt (eqb-true _ 0 (and_right (not (marked flags j)) _ t)))
      N (omega arith)

  split : length listed ≡ length unreadables + length (picked readable_root N)
  unfolding suspect
  split = picked_either (marked flags) (λ j. eqb (val (eval gf256 32 (poly a) (locators (length flags) j))) 0) N

  -- where the list is whole it is the places, each with its locator
  module _ (whole : count ≤ 30) where
    is_listed : take count at ≡ listed
    unfolding picked
    is_listed = sym (append-nil (take count at)) ∙ k.found.listed whole

    pub listed_length : length listed ≡ count
    listed_length = sym (ap length is_listed) ∙ length-take-le count at (omega (arith, k.found.long))

    pub listed_place : (h : ℕ) → h < count → get_or at h 0 < N
    listed_place h l = (picked_is (suspect flags a) N (get_or at h 0) (subst (λ t. Memᴰ (get_or at h 0) t) is_listed (taken_has count at h l (omega (arith, k.found.long))))).0

    located : (h : ℕ) → h < count → poly xs h ≡ X (get_or at h 0)
    unfolding locators
    located h l = ap elt (k.found.located h l)

    listed_root : (j : ℕ) → Memᴰ j listed → eval gf256 32 (product gf256 (poly xs) count) (X j) ≡ 𝟘
    listed_root j m =
        let r = taken_at count at j (subst (λ t. Memᴰ j t) (sym is_listed) m) in
        ap (λ x. eval gf256 32 (product gf256 (poly xs) count) x) (ap X (sym r.2) ∙ sym (located r.0 r.1)) ∙ product_root gf256 32 (poly xs) count r.0 (omega arith) r.1

  module _ {room : ℕ} {c : List ℕ} {t e' : ℕ} (small : room ≤ n) (st : Stands n room w flags c t e') where
    near : Agree gf256 N (unreadables ++ wrong w flags c) (word w) (word c)
    unfolding marked wrong
    near j l = go (eqb (get_or flags j 0) 0) refl (eqb (get_or w j 0) (get_or c j 0)) refl
      where
        go : (p : Bool) → eqb (get_or flags j 0) 0 ≡ p → (q : Bool) → eqb (get_or w j 0) (get_or c j 0) ≡ q → (word w j ≡ word c j) ⊎ Memᴰ j (unreadables ++ wrong w flags c)
        go false p q d = inr (Memᴰ.append_left (wrong w flags c) (picked_has (marked flags) N j l (ap not p)))
        go true p true d = inl (ap elt (eqb-true _ _ d))
        go true p false d =
            inr (Memᴰ.append_right unreadables (places_has (λ j. eqb (get_or flags j 0) 0 && not (eqb (get_or w j 0) (get_or c j 0))) (length w) j (omega (arith, k.flagged)) (true_T {b = eqb (get_or flags j 0) 0 && not (eqb (get_or w j 0) (get_or c j 0))} (ap₂ (λ x y. x && not y) p d))))

    codeword : (h : ℕ) → h < n → psum gf256 N X (word c) h ≡ 𝟘
    codeword h l = ap (λ m. psum gf256 m (locators m) (word c) h) (k.flagged ∙ sym st.long) ∙ codeword_sums st.codeword h l

    few : length (wrong w flags c) + length (wrong w flags c) ≤ n - e
    few = omega (arith, length_wrong w flags c, st.differs, st.missing, st.near, k.asked.missing)

    read : (h : ℕ) → h < n - e → poly left h ≡ erase_all gf256 X unreadables (psum gf256 N X (word w)) h
    read h l = k.folded.each h ∙ erase_all_window gf256 X unreadables (n - e) (λ q m. sums q (omega (arith, missing, k.asked.few))) h l

    apart : Apart gf256 N X
    apart = locators_apart N (omega (arith, k.flagged, k.short))

    -- the codeword differs from the word within the suspected places, and they are few
    within : Agree gf256 N listed (word w) (word c)
    within =
        covers gf256 N X apart 32 (n - e) unreadables (wrong w flags c) (λ u m. (picked_is (marked flags) N u m).0) near (λ h l. codeword h (omega (arith, missing, k.asked.few))) few (omega (arith, k.asked.checks))
        (poly left) read k.run k.whole listed mark_listed root_listed

    pub enough : length listed ≤ n
    enough =
        omega (
          arith,
          missing,
          split,
          k.asked.few,
          simp length-append at (fits gf256 N X apart 32 (n - e) unreadables (wrong w flags c) (λ u m. (picked_is (marked flags) N u m).0) near (λ h l. codeword h (omega (arith, missing, k.asked.few))) few (omega (arith, k.asked.checks))
              (poly left) read k.run k.whole (picked readable_root N) roots_are),
        )

    pub counted : count ≤ n
    counted =
        by_cases
        (dec_lt count 31)
        (λ h. omega (arith, listed_length (omega arith), enough))
        (λ h. absurd (omega (arith, k.found.many (omega arith), enough, k.asked.checks)))

    -- what is added at a suspected place is what is wrong there
    damage : (count ≤ 30) → (v : List ℕ) → Magnitudes xs count s v → (h : ℕ) → h < count → poly v h ≡ word w (get_or at h 0) ⊕ word c (get_or at h 0)
    damage whole v m h l =
        m h (omega arith)
        ∙ ap (λ x. eval gf256 32 (evaluator gf256 32 (product gf256 (poly xs) count) (poly s)) x ⊗ inv (slope gf256 32 (product gf256 (poly xs) count) x)) (located whole h l)
        ∙ sym
        (magnitude gf256 N X apart 32 listed (product gf256 (poly xs) count)
        (subst (λ d. Monic gf256 d (product gf256 (poly xs) count)) (sym (listed_length whole)) (product_monic gf256 (poly xs) count))
        (omega (arith, listed_length whole))
        (picked_roots (suspect flags a) gf256 32 X (product gf256 (poly xs) count) N (λ j q t. listed_root whole j (picked_has (suspect flags a) N j q t)) N (omega arith))
        (λ j. word w j ⊕ word c j)
        (poly s)
        (λ j q. ⊎_elim (λ p. inl (ap (λ x. x ⊕ word c j) p ∙ ⊕_self gf256 (word c j))) (λ p. inr (listed_root whole j p)) (within j q))
        (λ q o. sums q (omega (arith, enough)) ∙ sym (psum-⊕ gf256 N X (word w) (word c) q ∙ ap (λ x. psum gf256 N X (word w) q ⊕ x) (codeword q (omega (arith, enough))) ∙ ⊕_zero gf256 _))
        (get_or at h 0)
        (listed_place whole h l)
        (ap (λ x. eval gf256 32 (product gf256 (poly xs) count) x) (sym (located whole h l)) ∙ product_root gf256 32 (poly xs) count h (omega arith) l))

    -- so the mended word is the codeword
    pub right : (v r : List ℕ) → Magnitudes xs count s v → Mended w at v count r → ((j : ℕ) → get_or r j 0 < 256) → (j : ℕ) → j < length w → get_or r j 0 ≡ get_or c j 0
    right v r m d br j l =
        elt_same _ _ (br j) (st.codeword.bytes j (omega (arith, st.long)))
        (⊎_elim
        (λ q.
        ap elt q.0
        ∙ ⊎_elim
        (λ p. p)
        (λ p. absurd (let o = taken_at count at j (subst (λ t. Memᴰ j t) (sym (is_listed whole)) p) in q.1 o.0 o.1 o.2))
        (within j (omega (arith, k.flagged))))
        (λ q.
        ap elt q.3
        ∙ elt_add _ _
        ∙ ap (λ x. word w j ⊕ x) (damage whole v m q.0 q.1 ∙ ap (λ u. word w u ⊕ word c u) q.2)
        ∙ ⊕_cancel gf256 (word w j) (word c j))
        (d.each j l))
      where
        whole : count ≤ 30
        whole = omega (arith, counted, k.asked.checks)
