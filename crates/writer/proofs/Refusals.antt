-- "The writer checks 1 to 6 in order": each refusal exactly under its own words, after those before it.
use mathlib.Core.Path.{◌≡◌, refl}
use mathlib.Core.Bool.{Bool, true, false, ◌&&◌}
use mathlib.Core.Logic.{inl, inr, ⊎_elim}
use Prim.Native.Nat.{ℕ, ◌*◌, ◌≤◌, ◌<◌}
use native.Mathlib.Omega.{arith}
use borrow.Author.Tests.{leb-true, leb-false, eqb-true, eqb-false, le-leb, lt-leb}
use lib.Dec.{leb, eqb}
use lib.ListN.{length}
use Rattle.tables.specs.Tables.{side, last_version}
use Rattle.stream.specs.Stream.{lawful_list, counts, lawful_characters}
use Rattle.writer.specs.Writer.{Request, in_range, taken, unless, refusal}
use Rattle.writer.specs.Promise.{Next, BadNumber, BadList, BadCounts, BadCharacter, NoFit, Short, Refusals}
use Rattle.writer.proofs.Faults.{and_left, and_right, and_fails, list_lawful, list_faulty, characters_lawful, characters_faulty}
use Rattle.writer.proofs.Fit.{fit_rule}

-- a check that fails exactly where its fault is there, and the later ones where it passes
next : (b : Bool) (n k : ℕ) (fault : Type 0) (later : ℕ → Type 0)
    → (b ≡ true → fault → ⊥) → (b ≡ false → fault) → (b ≡ true → later k) → Next fault n later (unless b n k)
next true n k fault later clean found rest = inr (clean refl, rest refl)
next false n k fault later clean found rest = inl (found refl, refl)

-- the three numbers are in their ranges
pub numbers_right : (r : Request) → in_range r.level r.version r.mask ≡ true
    → (r.level ≤ 3) × ((r.version ≤ last_version) × (r.mask ≤ 8))
unfolding in_range
numbers_right r e =
    let two = and_left (leb r.level 3 && leb r.version last_version) (leb r.mask 8) e in (
      leb-true r.level 3 (and_left (leb r.level 3) (leb r.version last_version) two),
      (
        leb-true r.version last_version (and_right (leb r.level 3) (leb r.version last_version) two),
        leb-true r.mask 8 (and_right (leb r.level 3 && leb r.version last_version) (leb r.mask 8) e),
      ),
    )

numbers_clean : (r : Request) → in_range r.level r.version r.mask ≡ true → BadNumber r → ⊥
numbers_clean r e (inl l) = omega (arith, numbers_right r e)
numbers_clean r e (inr (inl v)) = omega (arith, numbers_right r e)
numbers_clean r e (inr (inr m)) = omega (arith, numbers_right r e)

numbers_found : (r : Request) → in_range r.level r.version r.mask ≡ false → BadNumber r
unfolding in_range
numbers_found r e =
    ⊎_elim
    (λ a. ⊎_elim (λ (l : leb r.level 3 ≡ false). inl (leb-false r.level 3 l)) (λ v. inr (inl (leb-false r.version last_version v.1))) (and_fails (leb r.level 3) (leb r.version last_version) a))
    (λ b. inr (inr (leb-false r.mask 8 b.1)))
    (and_fails (leb r.level 3 && leb r.version last_version) (leb r.mask 8) e)

-- what is left to say from each check on
abbrev Six : (r : Request) (out : ℕ) → ℕ → Type 0
Six r out = Next (Short r out) 6 (λ k. k ≡ 0)

abbrev Five : (r : Request) (out : ℕ) → ℕ → Type 0
Five r out = Next (NoFit r.level r.version r.list) 5 (Six r out)

abbrev Four : (r : Request) (out : ℕ) → ℕ → Type 0
Four r out = Next (BadCharacter r.list r.payload) 4 (Five r out)

abbrev Three : (r : Request) (out : ℕ) → ℕ → Type 0
Three r out = Next (BadCounts r) 3 (Four r out)

abbrev Two : (r : Request) (out : ℕ) → ℕ → Type 0
Two r out = Next (BadList r.list) 2 (Three r out)

pub refusals : Refusals
unfolding refusal
refusals r out =
    let v = taken r.level r.version r.list in
    next (in_range r.level r.version r.mask) 1 _ (BadNumber r) (Two r out) (numbers_clean r) (numbers_found r) (λ numbers.
    next (lawful_list r.list) 2 _ (BadList r.list) (Three r out) (list_lawful r.list) (list_faulty r.list) (λ modes.
    next (eqb (counts r.list) (length r.payload)) 3 _ (BadCounts r) (Four r out)
    (λ e f. f (eqb-true (counts r.list) (length r.payload) e)) (eqb-false (counts r.list) (length r.payload)) (λ sums.
    next (lawful_characters r.list r.payload) 4 _ (BadCharacter r.list r.payload) (Five r out)
    (characters_lawful r.list r.payload (omega (arith, eqb-true (counts r.list) (length r.payload) sums))) (characters_faulty r.list r.payload) (λ characters.
    let rule = fit_rule r.level r.version r.list in
    next (leb 1 v) 5 _ (NoFit r.level r.version r.list) (Six r out)
    (λ e f. omega (arith, leb-true 1 v e, rule.none.1 f)) (λ e. rule.none.0 (omega (arith, leb-false 1 v e))) (λ fit.
    next (leb (side v * side v) out) 6 0 (Short r out) (λ k. k ≡ 0)
    (λ e f. omega (arith, leb-true (side v * side v) out e)) (leb-false (side v * side v) out) (λ room. refl))))))

-- ---- no number but 1 to 6, and 0

unless_most : (b : Bool) (n k : ℕ) → n ≤ 6 → k ≤ 6 → unless b n k ≤ 6
unless_most true n k h l = l
unless_most false n k h l = h

pub refusal_most : (r : Request) (out : ℕ) → refusal r out ≤ 6
unfolding refusal
refusal_most r out =
    let v = taken r.level r.version r.list in
    unless_most (in_range r.level r.version r.mask) 1 _ (omega arith)
    (unless_most (lawful_list r.list) 2 _ (omega arith)
    (unless_most (eqb (counts r.list) (length r.payload)) 3 _ (omega arith)
    (unless_most (lawful_characters r.list r.payload) 4 _ (omega arith)
    (unless_most (leb 1 v) 5 _ (omega arith) (unless_most (leb (side v * side v) out) 6 0 (omega arith) (omega arith))))))

-- ---- the number, from what the checks gave

module _ (r : Request) (out : ℕ) where
  pub refused_1 : in_range r.level r.version r.mask ≡ false → refusal r out ≡ 1
  unfolding refusal
  refused_1 e = rw e

  module _ (one : in_range r.level r.version r.mask ≡ true) where
    pub refused_2 : lawful_list r.list ≡ false → refusal r out ≡ 2
    unfolding refusal
    refused_2 e = rw (one, e)

    module _ (two : lawful_list r.list ≡ true) where
      pub refused_3 : eqb (counts r.list) (length r.payload) ≡ false → refusal r out ≡ 3
      unfolding refusal
      refused_3 e = rw (one, two, e)

      module _ (three : eqb (counts r.list) (length r.payload) ≡ true) where
        pub refused_4 : lawful_characters r.list r.payload ≡ false → refusal r out ≡ 4
        unfolding refusal
        refused_4 e = rw (one, two, three, e)

        module _ (four : lawful_characters r.list r.payload ≡ true) where
          pub refused_5 : taken r.level r.version r.list ≡ 0 → refusal r out ≡ 5
          unfolding refusal
          refused_5 e = rw (one, two, three, four, e)

          pub refused_6 : 1 ≤ taken r.level r.version r.list
              → out < side (taken r.level r.version r.list) * side (taken r.level r.version r.list) → refusal r out ≡ 6
          unfolding refusal
          refused_6 f e = rw (one, two, three, four, le-leb _ _ f, lt-leb _ _ e)

          pub not_refused : 1 ≤ taken r.level r.version r.list
              → side (taken r.level r.version r.list) * side (taken r.level r.version r.list) ≤ out → refusal r out ≡ 0
          unfolding refusal
          not_refused f e = rw (one, two, three, four, le-leb _ _ f, le-leb _ _ e)
