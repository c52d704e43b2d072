-- What a list of pairs says by its first pair and the list behind it, or where no pair is left.
use mathlib.Core.Path.{◌≡◌, refl, ap, ◌∙◌}
use mathlib.Core.Bool.{Bool, true, false, ◌&&◌}
use mathlib.Core.List.{List, [], ◌∷◌, ◌++◌}
use Prim.Native.Nat.{ℕ, ◌+◌, ◌%◌, ◌<◌, ◌≤◌}
use native.Mathlib.Omega.{arith}
use lib.ListN.{length, get_or, take, drop}
use lib.Seq.{length-take-le}
use Rattle.std.specs.List.{list_all}
use Rattle.basics.specs.Lists.{each}
use Rattle.tables.specs.Tables.{count_width}
use Rattle.stream.specs.Put.{segment_bits}
use Rattle.stream.specs.Stream.{known, in_mode, lawful_list, counts, lawful_characters, body_width, segments, segments_width}

-- what holds of no number and of one holds where no pair is left
few : {A : Type 0} (f : List ℕ → A) (d : A) → f [] ≡ d → ((x : ℕ) → f (x ∷ []) ≡ d) → (l : List ℕ) → length l < 2 → f l ≡ d
few f d h₀ h₁ [] h = h₀
few f d h₀ h₁ (x ∷ []) h = h₁ x
few f d h₀ h₁ (x ∷ y ∷ r) h = absurd (omega arith)

each_all : (test : ℕ → Bool) (l : List ℕ) → each test l ≡ list_all test l
unfolding each
each_all test [] = refl
each_all test (x ∷ l) = ap (λ (t : Bool). test x && t) (each_all test l)

-- the pairs themselves, and a list that is lawful by them
pub pairs : List ℕ → List (List ℕ)
pairs [] = []
pairs (x ∷ []) = []
pairs (x ∷ y ∷ l) = (x ∷ y ∷ []) ∷ pairs l

abbrev pub known_pair : List ℕ → Bool
known_pair p = known (get_or p 0 0)

pub lawful_even : (l : List ℕ) → length l % 2 ≡ 0 → list_all known_pair (pairs l) ≡ lawful_list l
unfolding lawful_list pairs
lawful_even [] h = refl
lawful_even (x ∷ []) h = absurd (omega arith)
lawful_even (x ∷ y ∷ l) h = ap (λ (t : Bool). known x && t) (lawful_even l (omega arith))

pub lawful_odd : (l : List ℕ) → (length l % 2 ≡ 0 → ⊥) → lawful_list l ≡ false
unfolding lawful_list
lawful_odd [] h = absurd (h refl)
lawful_odd (x ∷ []) h = refl
lawful_odd (x ∷ y ∷ l) h = ap (λ (t : Bool). known x && t) (lawful_odd l (λ e. h (omega arith))) ∙ neither (known x)
  where
    neither : (t : Bool) → (t && false) ≡ false
    neither true = refl
    neither false = refl

module _ (l : List ℕ) (h : length l < 2) where
  pub counts_none : counts l ≡ 0
  unfolding counts
  counts_none = few counts 0 refl (λ x. refl) l h

  pub characters_none : (s : List ℕ) → lawful_characters l s ≡ true
  unfolding lawful_characters
  characters_none s = few (λ r. lawful_characters r s) true refl (λ x. refl) l h

  pub width_none : (v : ℕ) → segments_width v l ≡ 0
  unfolding segments_width
  width_none v = few (segments_width v) 0 refl (λ x. refl) l h

  pub pairs_none : pairs l ≡ []
  unfolding pairs
  pairs_none = few pairs [] refl (λ x. refl) l h

  pub segments_none : (v : ℕ) (s : List ℕ) → segments v l s ≡ []
  unfolding segments
  segments_none v s = few (λ r. segments v r s) [] refl (λ x. refl) l h

two : (pair rest : List ℕ) → length pair ≡ 2 → pair ++ rest ≡ get_or pair 0 0 ∷ get_or pair 1 0 ∷ rest
two [] rest h = absurd (omega arith)
two (a ∷ []) rest h = absurd (omega arith)
two (a ∷ b ∷ []) rest h = refl
two (a ∷ b ∷ c ∷ r) rest h = absurd (omega arith)

module _ (pair rest : List ℕ) (h : length pair ≡ 2) where
  pub pairs_more : pairs (pair ++ rest) ≡ pair ∷ pairs rest
  unfolding pairs
  pairs_more = ap pairs (two pair rest h) ∙ ap (λ (p : List ℕ). p ∷ pairs rest) (alone pair h)
    where
      alone : (pair : List ℕ) → length pair ≡ 2 → get_or pair 0 0 ∷ get_or pair 1 0 ∷ [] ≡ pair
      alone [] h = absurd (omega arith)
      alone (a ∷ []) h = absurd (omega arith)
      alone (a ∷ b ∷ []) h = refl
      alone (a ∷ b ∷ c ∷ r) h = absurd (omega arith)

  pub counts_more : counts (pair ++ rest) ≡ get_or pair 1 0 + counts rest
  unfolding counts
  counts_more = ap counts (two pair rest h)

  pub characters_more : (s : List ℕ)
      → lawful_characters (pair ++ rest) s ≡ list_all (in_mode (get_or pair 0 0)) (take (get_or pair 1 0) s) && lawful_characters rest (drop (get_or pair 1 0) s)
  unfolding lawful_characters
  characters_more s = ap (λ (r : List ℕ). lawful_characters r s) (two pair rest h) ∙ rw each_all

  pub width_more : (v : ℕ)
      → segments_width v (pair ++ rest) ≡ 4 + count_width v (get_or pair 0 0) + body_width (get_or pair 0 0) (get_or pair 1 0) + segments_width v rest
  unfolding segments_width
  width_more v = ap (segments_width v) (two pair rest h)

  -- the segment that the pair names, and the segments after it
  pub segments_more : (v : ℕ) (s : List ℕ) → counts (pair ++ rest) ≤ length s
      → segments v (pair ++ rest) s ≡ segment_bits v (get_or pair 0 0) (take (get_or pair 1 0) s) ++ segments v rest (drop (get_or pair 1 0) s)
  unfolding segments
  segments_more v s r =
      let whole : length (take (get_or pair 1 0) s) ≡ get_or pair 1 0 = length-take-le (get_or pair 1 0) s (omega (arith, counts_more)) in
      ap (λ (r : List ℕ). segments v r s) (two pair rest h) ∙ rw whole

pub ruleset counting = (counts_more, counts_none)

pub ruleset characters = (counts_more, characters_more, characters_none)
