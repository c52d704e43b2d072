-- `tables::version_of` meets its contract: the search takes the versions in their order.
use Rattle.std.proofs.Common.{rules, tests, ◌≡◌, ℕ, ◌+◌, ◌-◌, ◌*◌, ◌<◌, sym, ap, subst, ◌∙◌, arith, Bool, true, false}
use Rattle.std.specs.Prelude.{Option, Some, None, MatchOption, IfSome, IsTrue}
use Rattle.std.specs.Option.{option_map}
use Rattle.std.specs.Fn.{CalledAt}
use Rattle.std.specs.Range.{range_inclusive_start, range_inclusive_end, range_inclusive_exhausted}
use Rattle.std.specs.declared.ops.RangeInclusive.{RangeInclusive}
use Rattle.std.proofs.iter.runs.Sources.{inclusive_listed, nat_range_inclusive_steps}
use Rattle.std.specs.Iterator.Runs.{SomeRun, NoItemPasses, EndsAtFirstPassing, CallKeepsClosure}
use denote.Param.Members.{Mut}
use denote.Ref.{Bor}
use Rattle.tables.specs.Tables.{side, last_version}
use Rattle.tables.specs.Version.{Fixes}
use Rattle.tables.proofs.version_of.Goals as goal

-- `find` over the versions, for any closure that tests the side
module _ {F : Type 0} (g : Mut F (Bor ℕ × Unit {0}) Bool) (f : F) (n : ℕ) (keeps : CallKeepsClosure g f)
    (yes : (v : ℕ) → CalledAt g f v true f → side v * side v ≡ n) (no : (v : ℕ) → CalledAt g f v false f → side v * side v ≡ n → ⊥) where
  passed : (o : Option ℕ) (v : ℕ) → option_map (λ x. x) o ≡ Some v → IfSome o (λ x. CalledAt g f x false f) → CalledAt g f v false f
  passed None v e h = absurd cc
  passed (Some w) v e h = let is : w ≡ v = cc in subst (λ x. CalledAt g f x false f) is h

  found : (s : RangeInclusive ℕ) → range_inclusive_start s ≡ 1 → range_inclusive_end s ≡ last_version → range_inclusive_exhausted s ≡ false → (r : Option ℕ)
      → SomeRun nat_range_inclusive_steps s (λ u. MatchOption r (IsTrue u.whole × NoItemPasses u g f) (EndsAtFirstPassing u g f)) → Fixes n r
  found s a b e (Some v) (u, is, (i, long, last, ends)) =
      let l = inclusive_listed u u.seen in
      let first : l.0 ≡ 1 = l.2 ∙ ap range_inclusive_start is ∙ a in
      let past : l.1 ≡ 11 = omega (arith, l.3, ap range_inclusive_end is, b) in
      let up = (l.4 (ap range_inclusive_exhausted is ∙ e)).0 in
      let at : (v ≡ l.0 + i) × (v < l.1) = subst (λ o. IfSome o (λ x. (x ≡ l.0 + i) × (x < l.1))) last (up.2 i) in
      record { least = omega (arith, at.0, first); most = omega (arith, at.1, past); long = sym (yes v (ends keeps).0) }
  found s a b e None (u, is, (whole, none)) = λ v h.
      let l = inclusive_listed u u.seen in
      let first : l.0 ≡ 1 = l.2 ∙ ap range_inclusive_start is ∙ a in
      let past : l.1 ≡ 11 = omega (arith, l.3, ap range_inclusive_end is, b) in
      let up = (l.4 (ap range_inclusive_exhausted is ∙ e)).0 in
      let there : option_map (λ x. x) (u.at (v - 1)) ≡ Some v = up.3 (v - 1) (omega (arith, up.1 whole, first, past, h.least, h.most)) ∙ ap Some (omega (arith, first, h.least)) in
      no v (passed (u.at (v - 1)) v there (none keeps (v - 1))) (sym h.long)

pub returns : goal.returns
returns c = found _ _ c.args.len (search rules) (λ v h. grind (arith, tests)) (λ v h. grind (arith, tests)) c.new.result c.new.ensures.start c.new.ensures.end c.new.ensures.exhausted c.find.result c.find.ensures.runs
