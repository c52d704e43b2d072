-- The place of the least number: it is the least, and the first among equals.
-- What is kept on the way: `least` stands at `place`, no number before k is less, and those before `place` are greater.
use mathlib.Core.Path.{◌≡◌, refl, sym, ap, ◌∙◌}
use mathlib.Core.Bool.{Bool, true, false, cond}
use mathlib.Core.Logic.{⊎_elim}
use mathlib.Core.List.{List, [], ◌∷◌}
use Prim.Native.Nat.{ℕ, zero, suc, ◌+◌, ◌<◌, ◌≤◌}
use native.Mathlib.Nat.{eq-or-lt_of_le, le_of_suc-le-suc, not-suc-le-zero, le_refl, add-zero}
use native.Mathlib.Numerals.{add-one, one-add}
use native.Mathlib.Omega.{arith}
use borrow.Author.Tests.{ltb-true, ltb-false}
use lib.Dec.{ltb}
use lib.ListN.{length, get_or}
use Rattle.penalty.specs.Penalty.{least_after, least_place}
use Rattle.penalty.specs.Promise.{Least}

module _ (all : List ℕ) where
  -- `place` has the least of the first k
  record Leads (least place k : ℕ) : Type 0 where
    before : place < k
    here : get_or all place 0 ≡ least
    no_less : (j : ℕ) → j < k → least ≤ get_or all j 0
    greater : (j : ℕ) → j < place → least < get_or all j 0

  -- one more number: the old place leads, or the new one
  stays : (least place k : ℕ) → Leads least place k → least ≤ get_or all k 0 → Leads least place (k + 1)
  stays least place k l h =
      record {
        before = omega (arith, l.before);
        here = l.here;
        no_less = λ j b. ⊎_elim (λ (e : j ≡ k). rw e h) (λ b. l.no_less j b) (eq-or-lt_of_le (le_of_suc-le-suc (rw add-one at b)));
        greater = l.greater;
      }

  moves : (least place k : ℕ) → Leads least place k → get_or all k 0 < least → Leads (get_or all k 0) k (k + 1)
  moves least place k l h =
      record {
        before = omega arith;
        here = refl;
        no_less = λ j b. ⊎_elim (λ (e : j ≡ k). rw e (omega arith)) (λ b. omega (arith, l.no_less j b)) (eq-or-lt_of_le (le_of_suc-le-suc (rw add-one at b)));
        greater = λ j b. omega (arith, l.no_less j b);
      }

  turn : (b : Bool) (least place k : ℕ) → Leads least place k → ltb (get_or all k 0) least ≡ b
      → Leads (cond b (get_or all k 0) least) (cond b k place) (k + 1)
  turn true least place k l e = moves least place k l (ltb-true (get_or all k 0) least e)
  turn false least place k l e = stays least place k l (ltb-false (get_or all k 0) least e)

  leads_after : (least place k : ℕ) (xs : List ℕ) → ((j : ℕ) → get_or xs j 0 ≡ get_or all (k + j) 0) → k + length xs ≡ length all → Leads least place k
      → Leads (get_or all (least_after least place k xs) 0) (least_after least place k xs) (length all)
  unfolding least_after
  leads_after least place k [] d e l =
      let n : k ≡ length all = omega arith in
      rw (l.here, ← n) l
  leads_after least place k (x ∷ xs) d e l =
      let first : x ≡ get_or all k 0 = d 0 ∙ ap (λ (p : ℕ). get_or all p 0) (add-zero k) in
      leads_after (cond (ltb x least) x least) (cond (ltb x least) k place) (k + 1) xs
      (λ j. d (suc j) ∙ ap (λ (p : ℕ). get_or all p 0) (further j)) (omega arith)
      (rw first (turn (ltb (get_or all k 0) least) least place k l refl))
    where
      further : (j : ℕ) → k + suc j ≡ k + 1 + j
      further j = omega arith

-- "the least score is taken, the lowest mask among equals"
pub least : Least
unfolding least_place
least [] h = absurd (not-suc-le-zero h)
least (x ∷ xs) h =
    let l = leads_after (x ∷ xs) x 0 1 xs (λ j. ap (λ (p : ℕ). get_or (x ∷ xs) p 0) (sym (one-add j))) (omega arith)
    (record { before = omega arith; here = refl; no_less = first; greater = λ j b. absurd (not-suc-le-zero b) }) in
    record { inside = l.before; least = l.no_less; lowest = l.greater }
  where
    first : (j : ℕ) → j < 1 → x ≤ get_or (x ∷ xs) j 0
    first zero b = le_refl x
    first (suc j) b = absurd (not-suc-le-zero (le_of_suc-le-suc b))
