-- A message that fits: a lawful version with data bits enough. Nothing else fits.
use mathlib.Core.Path.{◌≡◌}
use mathlib.Core.Bool.{Bool, true, false, ◌&&◌}
use mathlib.Core.List.{List}
use Prim.Native.Nat.{ℕ, ◌*◌, ◌≤◌, ◌<◌}
use lib.Dec.{leb}
use borrow.Author.Tests.{leb-true, le-leb, lt-leb}
use Rattle.tables.specs.Tables.{last_version, data_count}
use Rattle.tables.proofs.Rules.{data_most}
use Rattle.stream.specs.Stream.{segments_width, fits}
use Rattle.stream.proofs.Pairs.{width_more, width_none}

last : (a b c : Bool) → (a && b && c) ≡ true → c ≡ true
last true true c e = e
last true false c e = cc
last false b c e = cc

not_last : (a b : Bool) → (a && b && false) ≡ false
not_last true true = cc
not_last true false = cc
not_last false b = cc

module _ (v level : ℕ) (list : List ℕ) where
  pub fit_width : fits v level list ≡ true → segments_width v list ≤ 8 * data_count v level
  unfolding fits
  fit_width h = leb-true _ _ (last (leb 1 v) (leb v last_version) _ h)

  pub width_fits : 1 ≤ v → v ≤ last_version → segments_width v list ≤ 8 * data_count v level → fits v level list ≡ true
  unfolding fits
  width_fits l m h = rw (le-leb 1 v l, le-leb v last_version m, le-leb (segments_width v list) (8 * data_count v level) h)

  pub width_past : 8 * data_count v level < segments_width v list → fits v level list ≡ false
  unfolding fits
  width_past h = rw (lt-leb (segments_width v list) (8 * data_count v level) h) (not_last (leb 1 v) (leb v last_version))

  -- no list fits a version outside 1 to 10, not the empty one either
  pub below_first : v < 1 → fits v level list ≡ false
  unfolding fits
  below_first h = rw (lt-leb 1 v h)

  pub above_last : last_version < v → fits v level list ≡ false
  unfolding fits
  above_last h = rw (lt-leb v last_version h) (not_mid (leb 1 v) (leb (segments_width v list) (8 * data_count v level)))
    where
      not_mid : (a c : Bool) → (a && false && c) ≡ false
      not_mid true c = cc
      not_mid false c = cc

pub ruleset fitting = (width_more, width_none, width_fits, width_past, data_most)
