-- Counts of what passes a test: over lists, and by a tally of places.
use Rattle.std.proofs.Common.{◌≡◌, ℕ, zero, suc, ◌+◌, Bool, true, false, cond, List, [], ◌∷◌, length, get_or, refl, sym, ap, ◌∙◌, add_assoc, arith}
use Rattle.std.specs.List.{filter, sum_by, zip}
use Rattle.std.proofs.lemmas.List.Sums.{sum_by-cons}
use Rattle.basics.specs.Sums.{sum, one, tally}

-- the first term taken off a sum
sum_front : (n : ℕ) (f : ℕ → ℕ) → sum (suc n) f ≡ f 0 + sum n (λ k. f (suc k))
unfolding sum
sum_front zero f = omega arith
sum_front (suc n) f = ap (λ (x : ℕ). x + f (suc n)) (sum_front n f) ∙ add_assoc (f 0) (sum n (λ k. f (suc k))) (f (suc n))

kept : {X : Type 0} (b : Bool) (x : X) (xs : List X) → length (cond b (x ∷ xs) xs) ≡ one b + length xs
kept true x xs = omega arith
kept false x xs = omega arith

pub counted : (p : ℕ → Bool) (xs : List ℕ) → sum_by (λ x. one (p x)) xs ≡ tally (length xs) (λ j. p (get_or xs j 0))
unfolding tally sum
counted p [] = refl
counted p (x ∷ xs) = sum_by-cons (λ x. one (p x)) x xs ∙ ap (λ (n : ℕ). one (p x) + n) (counted p xs) ∙ sym (sum_front (length xs) (λ j. one (p (get_or (x ∷ xs) j 0))))

-- by a filter over three lists of one length, walked side by side
pub filtered_zip :
    (p : (ℕ × ℕ) × ℕ → Bool) (w f c : List ℕ) → length f ≡ length w → length c ≡ length w →
    length (filter p (zip (zip w f) c)) ≡ tally (length w) (λ j. p ((get_or w j 0, get_or f j 0), get_or c j 0))
unfolding tally sum
filtered_zip p [] f c lf lc = refl
filtered_zip p (x ∷ w) [] c lf lc = absurd (omega arith)
filtered_zip p (x ∷ w) (y ∷ f) [] lf lc = absurd (omega arith)
filtered_zip p (x ∷ w) (y ∷ f) (z ∷ c) lf lc =
    kept (p ((x, y), z)) ((x, y), z) (filter p (zip (zip w f) c))
    ∙ ap (λ (n : ℕ). one (p ((x, y), z)) + n) (filtered_zip p w f c (omega arith) (omega arith))
    ∙ sym (sum_front (length w) (λ j. one (p ((get_or (x ∷ w) j 0, get_or (y ∷ f) j 0), get_or (z ∷ c) j 0))))
