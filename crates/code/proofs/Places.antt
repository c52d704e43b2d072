-- The places that pass a test, as a list: as long as the tally says, with each such place in it. So a count of places is a list for the theory.
use mathlib.Core.Path.{◌≡◌, refl, ap, subst, subst⁻¹, ◌∙◌}
use mathlib.Core.Logic.{◌⊎◌, inl, inr, ⊎_elim, by_cases}
use mathlib.Core.Bool.{Bool, true, false, not, ◌&&◌}
use mathlib.Core.List.Memᴰ
use mathlib.Core.List.{List, [], ◌∷◌, ◌++◌, Memᴰ}
use Prim.Native.Nat.{ℕ, zero, suc, ◌+◌, ◌<◌}
use native.Mathlib.Nat.{not-suc-le-zero, eq-or-lt_of_le, le_of_suc-le-suc}
use native.Mathlib.Decide.{dec_lt}
use native.Mathlib.Omega.{arith}
use lib.Dec.{T, T_not, eqb, eqb→eq, eqb_refl}
use lib.ListN.{length, get_or, get_or-eq_default}
use Rattle.basics.specs.Sums.{sum, one, tally}
use Rattle.field.proofs.Byte.{elt}
use Rattle.theory.proofs.Places.{Agree}
use Rattle.theory.proofs.Gf.{gf256}
use Rattle.code.specs.Code.{apart_at, unreadable, differing}
use Rattle.code.proofs.Bridge.{word}

with : Bool → ℕ → List ℕ → List ℕ
with true n l = n ∷ l
with false n l = l

-- the places below n that pass the test, the greatest first
unfoldable pub places : (ℕ → Bool) → ℕ → List ℕ
unfolding with
places test zero = []
places test (suc n) = with (test n) n (places test n)

length_with : (b : Bool) (n : ℕ) (l : List ℕ) → length (with b n l) ≡ length l + one b
unfolding with
length_with true n l = omega arith
length_with false n l = omega arith

pub length_places : (test : ℕ → Bool) (n : ℕ) → length (places test n) ≡ tally n test
unfolding places tally sum
length_places test zero = refl
length_places test (suc n) = length_with (test n) n (places test n) ∙ ap (λ (m : ℕ). m + one (test n)) (length_places test n)

with_head : (b : Bool) (n : ℕ) (l : List ℕ) → T b → Memᴰ n (with b n l)
unfolding with
with_head true n l t = Memᴰ.head refl
with_head false n l t = absurd t

with_tail : (b : Bool) (n j : ℕ) (l : List ℕ) → Memᴰ j l → Memᴰ j (with b n l)
unfolding with
with_tail true n j l m = Memᴰ.tail m
with_tail false n j l m = m

pub places_has : (test : ℕ → Bool) (n j : ℕ) → j < n → T (test j) → Memᴰ j (places test n)
unfolding places
places_has test zero j h t = absurd (not-suc-le-zero h)
places_has test (suc n) j h t =
    ⊎_elim (λ (e : j ≡ n). subst⁻¹ (λ (k : ℕ). Memᴰ k (with (test n) n (places test n))) e (with_head (test n) n (places test n) (subst (λ (k : ℕ). T (test k)) e t)))
    (λ l. with_tail (test n) n j (places test n) (places_has test n j l t)) (eq-or-lt_of_le (le_of_suc-le-suc h))

-- ---- the places where words differ

equal_or : (x y : ℕ) → (x ≡ y) ⊎ T (not (eqb x y))
equal_or x y = go (eqb x y) (eqb→eq x y)
  where
    go : (b : Bool) → (T b → x ≡ y) → (x ≡ y) ⊎ T (not b)
    go true f = inl (f tt)
    go false f = inr tt

pub apart_places : (a b : List ℕ) → List ℕ
apart_places a b = places (λ j. not (eqb (get_or a j 0) (get_or b j 0))) (length a)

pub length_apart : (a b : List ℕ) → length (apart_places a b) ≡ apart_at a b
unfolding apart_places apart_at
length_apart a b = length_places (λ j. not (eqb (get_or a j 0) (get_or b j 0))) (length a)

pub apart_agree : (a b : List ℕ) → Agree gf256 (length a) (apart_places a b) (word a) (word b)
unfolding apart_places
apart_agree a b j l =
    ⊎_elim (λ e. inl (ap elt e)) (λ t. inr (places_has (λ j. not (eqb (get_or a j 0) (get_or b j 0))) (length a) j l t)) (equal_or (get_or a j 0) (get_or b j 0))

-- ---- the unreadable places of a block, and the readable ones that differ from a codeword

unfoldable pub unread : List ℕ → List ℕ
unread flags = places (λ j. not (eqb (get_or flags j 0) 0)) (length flags)

unfoldable pub wrong : (w flags c : List ℕ) → List ℕ
wrong w flags c = places (λ j. eqb (get_or flags j 0) 0 && not (eqb (get_or w j 0) (get_or c j 0))) (length w)

pub length_unread : (flags : List ℕ) → length (unread flags) ≡ unreadable flags
unfolding unread unreadable
length_unread flags = length_places (λ j. not (eqb (get_or flags j 0) 0)) (length flags)

pub length_wrong : (w flags c : List ℕ) → length (wrong w flags c) ≡ differing w flags c
unfolding wrong differing
length_wrong w flags c = length_places (λ j. eqb (get_or flags j 0) 0 && not (eqb (get_or w j 0) (get_or c j 0))) (length w)

equal_unread_wrong : (f x y : ℕ) → (x ≡ y) ⊎ (T (not (eqb f 0)) ⊎ T (eqb f 0 && not (eqb x y)))
equal_unread_wrong f x y = go (eqb f 0) (eqb x y) (eqb→eq x y)
  where
    go : (a b : Bool) → (T b → x ≡ y) → (x ≡ y) ⊎ (T (not a) ⊎ T (a && not b))
    go true true h = inl (h tt)
    go true false h = inr (inr tt)
    go false b h = inr (inl tt)

-- a flag that is set stands inside the list of flags
inside : (flags : List ℕ) (j : ℕ) → T (not (eqb (get_or flags j 0) 0)) → j < length flags
inside flags j t =
    by_cases (dec_lt j (length flags)) (λ l. l)
    (λ l. absurd (T_not (eqb (get_or flags j 0) 0) t (rw (get_or-eq_default flags 0 {n = j} (omega arith)) (eqb_refl 0))))

-- outside these places the word and the codeword agree
pub stands_agree : (w flags c : List ℕ) → Agree gf256 (length w) (unread flags ++ wrong w flags c) (word w) (word c)
unfolding unread wrong
stands_agree w flags c j l =
    ⊎_elim (λ e. inl (ap elt e))
    (λ s. inr
    (⊎_elim (λ t. Memᴰ.append_left (wrong w flags c) (places_has (λ j. not (eqb (get_or flags j 0) 0)) (length flags) j (inside flags j t) t))
    (λ t. Memᴰ.append_right (unread flags) (places_has (λ j. eqb (get_or flags j 0) 0 && not (eqb (get_or w j 0) (get_or c j 0))) (length w) j l t)) s))
    (equal_unread_wrong (get_or flags j 0) (get_or w j 0) (get_or c j 0))
