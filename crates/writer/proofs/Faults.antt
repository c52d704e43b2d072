-- Each check of the writer fails exactly where its fault is there, in the paper's words.
use mathlib.Core.Path.{◌≡◌, refl, sym, ap, ◌∙◌}
use mathlib.Core.Bool.{Bool, true, false, ◌&&◌, true≢false}
use mathlib.Core.Logic.{◌⊎◌, inl, inr, ⊎_elim}
use mathlib.Core.List.{List, [], ◌∷◌}
use Prim.Native.Nat.{ℕ, zero, suc, ◌+◌, ◌*◌, ◌≤◌, ◌<◌}
use native.Mathlib.Nat.{not-suc-le-zero, zero-add, add_assoc}
use native.Mathlib.Omega.{arith}
use lib.ListN.{length, get_or, take, drop, length-take, length-drop}
use lib.Seq.{get_or-take, get_or-drop}
use Rattle.basics.specs.Lists.{each}
use Rattle.stream.specs.Stream.{known, in_mode, lawful_list, counts, lawful_characters}
use Rattle.writer.specs.Promise.{BadList, BadCharacter}

-- ---- two tests together

pub and_left : (a b : Bool) → a && b ≡ true → a ≡ true
and_left true b e = refl
and_left false b e = absurd (true≢false (sym e))

pub and_right : (a b : Bool) → a && b ≡ true → b ≡ true
and_right true b e = e
and_right false b e = absurd (true≢false (sym e))

pub and_fails : (a b : Bool) → a && b ≡ false → (a ≡ false) ⊎ ((a ≡ true) × (b ≡ false))
and_fails true b e = inr (refl, e)
and_fails false b e = inl refl

pub not_both : {b : Bool} → b ≡ true → b ≡ false → ⊥
not_both t f = true≢false (sym t ∙ f)

-- ---- a test of each number

each_at : (f : ℕ → Bool) (xs : List ℕ) (i : ℕ) → each f xs ≡ true → i < length xs → f (get_or xs i 0) ≡ true
unfolding each
each_at f [] i e h = absurd (not-suc-le-zero h)
each_at f (x ∷ xs) zero e h = and_left (f x) (each f xs) e
each_at f (x ∷ xs) (suc i) e h = each_at f xs i (and_right (f x) (each f xs) e) (omega arith)

each_fails : (f : ℕ → Bool) (xs : List ℕ) → each f xs ≡ false → (i : ℕ) × ((i < length xs) × (f (get_or xs i 0) ≡ false))
unfolding each
each_fails f [] e = absurd (true≢false e)
each_fails f (x ∷ xs) e =
    ⊎_elim (λ (a : f x ≡ false). (0, (omega arith, a)))
    (λ (b : (f x ≡ true) × (each f xs ≡ false)). let r = each_fails f xs b.1 in (suc r.0, (omega (arith, r.1.0), r.1.1)))
    (and_fails (f x) (each f xs) e)

-- ---- refusal 2

-- pair k + 1 of a list is pair k of what follows its first
further : (k : ℕ) → 2 * suc k ≡ suc (suc (2 * k))
further k = omega arith

further_count : (k : ℕ) → 2 * suc k + 1 ≡ suc (suc (2 * k + 1))
further_count k = omega arith

pub list_lawful : (list : List ℕ) → lawful_list list ≡ true → BadList list → ⊥
unfolding lawful_list
list_lawful [] e (inl o) = omega arith
list_lawful [] e (inr (k, (h, f))) = not-suc-le-zero h
list_lawful (m ∷ []) e b = true≢false (sym e)
list_lawful (m ∷ c ∷ list) e (inl o) = list_lawful list (and_right (known m) (lawful_list list) e) (inl (omega arith))
list_lawful (m ∷ c ∷ list) e (inr (zero, (h, f))) = not_both (and_left (known m) (lawful_list list) e) f
list_lawful (m ∷ c ∷ list) e (inr (suc k, (h, f))) =
    list_lawful list (and_right (known m) (lawful_list list) e) (inr (k, (omega arith, rw (further k) at f)))

pub list_faulty : (list : List ℕ) → lawful_list list ≡ false → BadList list
unfolding lawful_list
list_faulty [] e = absurd (true≢false e)
list_faulty (m ∷ []) e = inl refl
list_faulty (m ∷ c ∷ list) e =
    ⊎_elim (λ (a : known m ≡ false). inr (0, (omega arith, a)))
    (λ (b : (known m ≡ true) × (lawful_list list ≡ false)). later (list_faulty list b.1))
    (and_fails (known m) (lawful_list list) e)
  where
    later : BadList list → BadList (m ∷ c ∷ list)
    later (inl o) = inl (omega arith)
    later (inr (k, (h, f))) = inr (suc k, (omega arith, rw (further k) f))

-- ---- refusal 4

-- a character behind the first segment's
deeper : (payload : List ℕ) (c n i : ℕ) → get_or (drop c payload) (n + i) 0 ≡ get_or payload (c + n + i) 0
deeper payload c n i = get_or-drop c payload (n + i) 0 ∙ ap (λ (p : ℕ). get_or payload p 0) (sym (add_assoc c n i))

pub characters_lawful : (list payload : List ℕ) → counts list ≤ length payload → lawful_characters list payload ≡ true → BadCharacter list payload → ⊥
unfolding lawful_characters counts
characters_lawful [] payload s e (k, (i, (h, r))) = not-suc-le-zero h
characters_lawful (m ∷ []) payload s e (zero, (i, (h, r))) = omega arith
characters_lawful (m ∷ []) payload s e (suc k, (i, (h, r))) = omega arith
characters_lawful (m ∷ c ∷ list) payload s e (zero, (i, (h, (l, f)))) =
    let first = and_left (each (in_mode m) (take c payload)) (lawful_characters list (drop c payload)) e in
    let g : in_mode m (get_or payload i 0) ≡ false = rw zero-add at f in
    let t : in_mode m (get_or (take c payload) i 0) ≡ true = each_at (in_mode m) (take c payload) i first (rw length-take (omega arith)) in
    not_both (rw (get_or-take c payload i 0 l) at t) g
characters_lawful (m ∷ c ∷ list) payload s e (suc k, (i, (h, (l, f)))) =
    let rest = and_right (each (in_mode m) (take c payload)) (lawful_characters list (drop c payload)) e in
    let w : i < get_or list (2 * k + 1) 0 = rw (further_count k) at l in
    characters_lawful list (drop c payload) (rw length-drop (omega arith)) rest
    (k, (i, (omega arith, (w, rw (deeper payload c (counts (take (2 * k) list)) i) (rw (further k) at f)))))

pub characters_faulty : (list payload : List ℕ) → lawful_characters list payload ≡ false → BadCharacter list payload
unfolding lawful_characters counts
characters_faulty [] payload e = absurd (true≢false e)
characters_faulty (m ∷ []) payload e = absurd (true≢false e)
characters_faulty (m ∷ c ∷ list) payload e =
    ⊎_elim first (λ b. later (characters_faulty list (drop c payload) b.1))
    (and_fails (each (in_mode m) (take c payload)) (lawful_characters list (drop c payload)) e)
  where
    first : each (in_mode m) (take c payload) ≡ false → BadCharacter (m ∷ c ∷ list) payload
    first a =
        let r = each_fails (in_mode m) (take c payload) a in
        let l : r.0 < c = omega (arith, rw length-take at r.1.0) in
        (0, (r.0, (omega arith, (l, rw zero-add (rw (get_or-take c payload r.0 0 l) at r.1.1)))))

    later : BadCharacter list (drop c payload) → BadCharacter (m ∷ c ∷ list) payload
    later (k, (i, (h, (l, f)))) =
        (suc k, (i, (omega arith, (rw (further_count k) l, rw (further k) (rw (deeper payload c (counts (take (2 * k) list)) i) at f)))))
