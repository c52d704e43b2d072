-- The version that is taken: the named one where it fits, with version 0 the smallest that fits, and 0 where there is none.
use mathlib.Core.Path.{◌≡◌, refl, sym, ap, ◌∙◌}
use mathlib.Core.Bool.{Bool, true, false, cond, true≢false}
use mathlib.Core.Logic.{◌≢◌, by_cases}
use mathlib.Core.List.{List, ◌∷◌}
use Prim.Native.Nat.{ℕ, zero, suc, ◌+◌, ◌≤◌, ◌<◌}
use native.Mathlib.Decide.{ℕ_discrete}
use native.Mathlib.Omega.{arith}
use borrow.Author.Tests.{ne_eqb}
use Rattle.basics.specs.Lists.{from, keep}
use Rattle.tables.specs.Tables.{last_version}
use Rattle.stream.specs.Stream.{fits}
use Rattle.stream.proofs.Fitting.{above_last}
use Rattle.writer.specs.Writer.{taken, front_or0}
use Rattle.writer.specs.Promise.{FitRule, FitRules}
use Rattle.writer.specs.Answer.{nonzero}
use Rattle.std.specs.Prelude.{None, Some, is_some, unwrap_or}
use Rattle.std.specs.Bool.{then_some}

-- the first of a, .., a + n - 1 that passes a test
module _ (test : ℕ → Bool) where
  -- x is the first, or 0 and there is none
  record First (a n x : ℕ) : Type 0 where
    none : x ≡ 0 → (v : ℕ) → a ≤ v → v < a + n → test v ≡ false
    some : x ≢ 0 → (test x ≡ true) × ((a ≤ x) × (x < a + n))
    before : (v : ℕ) → a ≤ v → v < x → test v ≡ false

  first : (a n : ℕ) → 0 < a → First a n (front_or0 (keep test (from a n)))
  unfolding from keep
  first a zero h =
      record { none = λ e v l m. absurd (omega arith); some = λ e. absurd (e refl); before = λ v l m. absurd (omega arith) }
  first a (suc n) h = by_test (test a) refl (first (suc a) n (omega arith))
    where
      by_test : (b : Bool) → test a ≡ b → First (suc a) n (front_or0 (keep test (from (suc a) n)))
          → First a (suc n) (front_or0 (cond b (a ∷ keep test (from (suc a) n)) (keep test (from (suc a) n))))
      by_test true t f =
          record {
            none = λ e. absurd (omega arith);
            some = λ e. (t, (omega arith, omega arith));
            before = λ v l m. absurd (omega arith);
          }
      by_test false t f =
          record {
            none = λ e v l m. by_cases (ℕ_discrete v a) (λ (q : v ≡ a). rw q t) (λ q. f.none e v (omega arith) (omega arith));
            some = λ e. ((f.some e).0, (omega (arith, (f.some e).1), omega (arith, (f.some e).1)));
            before = λ v l m. by_cases (ℕ_discrete v a) (λ (q : v ≡ a). rw q t) (λ q. f.before v (omega arith) m);
          }

-- the version taken where none is named
taken_least : (level : ℕ) (list : List ℕ) → First (λ v. fits v level list) 1 last_version (taken level 0 list)
unfolding taken
taken_least level list = first (λ v. fits v level list) 1 last_version (omega arith)

-- a version that fits, where no smaller one does, is that version
pub taken_first : (level v : ℕ) (list : List ℕ) → 1 ≤ v → v ≤ last_version → fits v level list ≡ true
    → ((k : ℕ) → 1 ≤ k → k < v → fits k level list ≡ false) → taken level 0 list ≡ v
taken_first level v list l m t before =
    let f = taken_least level list in
    let some : taken level 0 list ≢ 0 = λ e. true≢false (sym t ∙ f.none e v l (omega arith)) in
    let not_above : v < taken level 0 list → ⊥ = λ h. true≢false (sym t ∙ f.before v l h) in
    let not-below : taken level 0 list < v → ⊥ = λ h. true≢false (sym (f.some some).0 ∙ before (taken level 0 list) (f.some some).1.0 h) in
    omega arith

-- and where one is
module _ (level version : ℕ) (list : List ℕ) (is-named : version ≢ 0) where
  pub taken_named : fits version level list ≡ true → taken level version list ≡ version
  unfolding taken keep
  taken_named t = rw (ne_eqb version 0 is-named, t)

  pub taken_refused : fits version level list ≡ false → taken level version list ≡ 0
  unfolding taken keep
  taken_refused t = rw (ne_eqb version 0 is-named, t)

fit_least : (level : ℕ) (list : List ℕ) → FitRule level 0 list
fit_least level list =
    let f = taken_least level list in
    let inside : taken level 0 list ≤ last_version =
    by_cases (ℕ_discrete (taken level 0 list) 0) (λ e. omega arith) (λ n. omega (arith, (f.some n).1)) in
    record {
      none = (
        λ e v l m n. f.none e v l (omega arith),
        λ n. by_cases (ℕ_discrete (taken level 0 list) 0) (λ e. e)
            (λ q. absurd (true≢false (sym (f.some q).0 ∙ n (taken level 0 list) (f.some q).1.0 inside (λ z. absurd (z refl))))),
      );
      within = inside;
      takes = λ n. (f.some n).0;
      named = λ n. absurd (n refl);
      least = f.before;
    }

pub taken_none : (level : ℕ) (list : List ℕ) → ((k : ℕ) → 1 ≤ k → k ≤ last_version → fits k level list ≡ false) → taken level 0 list ≡ 0
taken_none level list none = (fit_least level list).none.1 (λ v l m n. none v l m)

-- the first version that fits, and none
pub taken_found : (level v : ℕ) (list : List ℕ) → 1 ≤ v → v ≤ last_version → fits v level list ≡ true
    → ((k : ℕ) → 1 ≤ k → k < v → fits k level list ≡ false) → Some v ≡ nonzero (taken level 0 list)
taken_found level zero list l m t before = absurd (omega arith)
taken_found level (suc n) list l m t before = rw (taken_first level (suc n) list l m t before)

pub taken_nowhere : (level : ℕ) (list : List ℕ) → ((k : ℕ) → 1 ≤ k → k ≤ last_version → fits k level list ≡ false)
    → None ≡ nonzero (taken level 0 list)
taken_nowhere level list none = rw (taken_none level list none)

-- what is taken, where a version is and where none is
pub some_taken : (t v : ℕ) → Some v ≡ nonzero t → (v ≡ t) × (1 ≤ t)
some_taken zero v e = absurd (let z : true ≡ false = ap is_some e in true≢false z)
some_taken (suc n) v e = (ap (λ r. unwrap_or r 0) e, omega arith)

pub none_taken : (t : ℕ) → None ≡ nonzero t → t ≡ 0
none_taken zero e = refl
none_taken (suc n) e = absurd (let z : false ≡ true = ap is_some e in true≢false (sym z))

-- the named version, where it fits
pub taken_where : (level version : ℕ) (list : List ℕ) (b : Bool) → version ≢ 0 → fits version level list ≡ b
    → then_some b version ≡ nonzero (taken level version list)
taken_where level zero list b z t = absurd (z refl)
taken_where level (suc n) list true z t = rw (taken_named level (suc n) list z t)
taken_where level (suc n) list false z t = rw (taken_refused level (suc n) list z t)

fit_named : (level version : ℕ) (list : List ℕ) → version ≢ 0 → FitRule level version list
fit_named level version list z = by_test (fits version level list) refl
  where
    by_test : (b : Bool) → fits version level list ≡ b → FitRule level version list
    by_test true t =
        let e = taken_named level version list z t in
        let past : last_version < version → ⊥ = λ h. true≢false (sym t ∙ above_last version level list h) in
        record {
          none = (λ n. absurd (z (sym e ∙ n)), λ n. absurd (true≢false (sym t ∙ n version (omega (arith, z)) (omega arith) (λ _. refl))));
          within = omega arith;
          takes = λ _. rw e t;
          named = λ _ _. e;
          least = (taken_least level list).before;
        }
    by_test false t =
        let e = taken_refused level version list z t in
        record {
          none = (λ _ v l m n. rw (n z) t, λ _. e);
          within = omega arith;
          takes = λ n. absurd (n e);
          named = λ _ n. absurd (n e);
          least = (taken_least level list).before;
        }

-- "version (1 to 10, or 0 for the smallest v that fits)"
pub fit_rule : FitRules
fit_rule level version list =
    by_cases (ℕ_discrete version 0) (λ (e : version ≡ 0). rw e (fit_least level list)) (fit_named level version list)
