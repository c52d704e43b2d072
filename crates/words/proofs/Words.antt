-- At most one format word stands for a copy, and at most one version word: any two differ in 7 bits or more, which antt tests at each pair.
use mathlib.Core.Path.{refl, ap}
use native.Mathlib.Omega.{arith}
use lib.Count.{ones_in}
use lib.Dec.{T}
use Rattle.words.specs.Words.{reduced, format_word, version_word}
use Rattle.words.specs.Theorems.{FormatOnly, VersionOnly, FormatFoundOnly, VersionFoundOnly}
use Rattle.std.proofs.Common.{Some, None}
use Rattle.words.proofs.Distance.{are_far, word_only}

format_far : T (are_far 15 32 format_word)
unfolding format_word reduced ones_in
format_far = tt

version_far : T (are_far 18 41 version_word)
unfolding version_word reduced ones_in
version_far = tt

pub format_only : FormatOnly
format_only = word_only 15 32 format_word format_far

pub version_only : VersionOnly
version_only copy readable x y lx hx ly hy = word_only 18 41 version_word version_far copy readable x y (omega arith) (omega arith)

-- no two different answers meet the promise of `find_format` or of `find_version`
pub format_found_only : FormatFoundOnly
format_found_only copy readable (Some x) (Some y) p q = ap Some (format_only copy readable x y p.lawful q.lawful p.near q.near)
format_found_only copy readable (Some x) None p q = absurd (q x p)
format_found_only copy readable None (Some y) p q = absurd (p y q)
format_found_only copy readable None None p q = refl

pub version_found_only : VersionFoundOnly
version_found_only copy readable (Some x) (Some y) p q =
    ap Some (version_only copy readable x y p.least p.most q.least q.most p.near q.near)
version_found_only copy readable (Some x) None p q = absurd (q x p)
version_found_only copy readable None (Some y) p q = absurd (p y q)
version_found_only copy readable None None p q = refl
