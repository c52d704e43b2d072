-- The patterns of a version drawn one after the other are its modules' kinds: one test a version, computed.
use mathlib.Core.Path.{◌≡◌, refl, ap₂, subst}
use mathlib.Core.Bool.{Bool, true, false, ◌&&◌}
use mathlib.Core.List.{List, [], ◌∷◌}
use Prim.Native.Nat.{ℕ, ◌+◌, ◌-◌, ◌*◌, ◌/◌, ◌%◌, ◌≤◌, ◌<◌}
use native.Mathlib.Omega.{arith}
use lib.Dec.{T, eqb, eqb→eq}
use lib.ListN.{replicate, get_or}
use Rattle.basics.specs.Lists.{same}
use Rattle.basics.specs.Walk.{walked}
use Rattle.basics.proofs.Test.{all, at}
use Rattle.tables.specs.Tables.{side}
use Rattle.words.specs.Words.{version_word}
use Rattle.modules.specs.Modules.{format_places, version_places}
use Rattle.modules.specs.Kinds.{kinds, square_place, timing_place, timing_value, format_place, format_value, version_place, version_value, at_finder, aligned_one, aligned, finders_on, frame_on}
use Rattle.modules.proofs.Open.{every}
use Rattle.modules.proofs.Geometry.{word_places}

-- the place of turn t is in a matrix of the version's length
pub format_inside : (v t n p : ℕ) → 1 ≤ v → v ≤ 10 → t < 30 → side v * side v ≤ n → p ≡ get_or (format_places v (t % 2)) (t / 2) 0 → p < n
format_inside v t n p least most h room e = omega (arith, (word_places v least most).format_inside (t % 2) (t / 2) (omega arith) (omega arith))

pub version_inside : (v t n p : ℕ) → 7 ≤ v → v ≤ 10 → t < 36 → side v * side v ≤ n → p ≡ get_or (version_places v (t % 2)) (t / 2) 0 → p < n
version_inside v t n p least most h room e =
    omega (arith, (word_places v (omega arith) most).version_inside (t % 2) (t / 2) least (omega arith) (omega arith))

unfoldable pub below7 : (v : ℕ) → List ℕ
below7 v = frame_on v (finders_on (side v) (replicate (side v * side v) 2))

unfoldable pub from7 : (v : ℕ) → List ℕ
from7 v = walked (version_place v) (version_value (version_word v)) 36 (below7 v)

-- the same from the numbers and the matrices as the code has them
pub below_made : (v n : ℕ) (out₁ out₂ out₃ : List ℕ) → n ≡ side v * side v → out₁ ≡ replicate n 2 → out₂ ≡ finders_on (side v) out₁
    → out₃ ≡ frame_on v out₂ → out₃ ≡ below7 v
unfolding below7
below_made v n out₁ out₂ out₃ long cleared found framed = rw (framed, found, cleared, long)

pub from_made : (v word : ℕ) (out out' : List ℕ) → out ≡ below7 v → word ≡ version_word v → out' ≡ walked (version_place v) (version_value word) 36 out → out' ≡ from7 v
unfolding from7
from_made v word out out' below worded drawn = rw (drawn, worded, below)

below_tested : T (all 6 (λ n. same (below7 (1 + n)) (kinds (1 + n))))
unfolding every finders_on frame_on below7 kinds walked square_place timing_place timing_value format_place format_value at_finder aligned_one aligned
below_tested = tt

from_tested : T (all 4 (λ n. same (from7 (7 + n)) (kinds (7 + n))))
unfolding every finders_on frame_on below7 from7 kinds walked square_place timing_place timing_value format_place format_value version_place version_value at_finder aligned_one aligned
from_tested = tt

and_left : (a b : Bool) → T (a && b) → T a
and_left true b t = tt
and_left false b t = absurd t

and_right : (a b : Bool) → T (a && b) → T b
and_right true b t = t
and_right false b t = absurd t

same_lists : (xs ys : List ℕ) → T (same xs ys) → xs ≡ ys
unfolding same
same_lists [] [] t = refl
same_lists [] (y ∷ ys) t = absurd t
same_lists (x ∷ xs) [] t = absurd t
same_lists (x ∷ xs) (y ∷ ys) t =
    ap₂ ◌∷◌ (eqb→eq x y (and_left (eqb x y) (same xs ys) t)) (same_lists xs ys (and_right (eqb x y) (same xs ys) t))

pub below_drawn : (v : ℕ) → 1 ≤ v → v < 7 → below7 v ≡ kinds v
below_drawn v l m =
    let e : 1 + (v - 1) ≡ v = omega arith in
    subst (λ (v : ℕ). below7 v ≡ kinds v) e
    (same_lists _ _ (at 6 (λ n. same (below7 (1 + n)) (kinds (1 + n))) below_tested (v - 1) (omega arith)))

pub from_drawn : (v : ℕ) → 7 ≤ v → v ≤ 10 → from7 v ≡ kinds v
from_drawn v l m =
    let e : 7 + (v - 7) ≡ v = omega arith in
    subst (λ (v : ℕ). from7 v ≡ kinds v) e
    (same_lists _ _ (at 4 (λ n. same (from7 (7 + n)) (kinds (7 + n))) from_tested (v - 7) (omega arith)))
