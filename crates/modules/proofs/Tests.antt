-- The layout of each version, computed: the walk leads over all modules but those of column 6 and back, column 6 has no data module,
-- and the places of the words are the words' modules.
use mathlib.Core.Bool.{Bool, true, false, not}
use Prim.Native.Nat.{ℕ, zero, suc, ◌+◌, ◌-◌, ◌*◌, ◌/◌, ◌%◌, ◌≤◌}
use native.Mathlib.Omega.{arith}
use lib.Dec.{T, eqb, ltb}
use lib.ListN.{length, get_or}
use Rattle.basics.proofs.Test.{all, at, both, either}
use Rattle.tables.specs.Tables.{side, total, surplus}
use Rattle.modules.specs.Modules.{Module, Format, Version, Finder, Timing, Alignment, Dark, Data, module_of, order, walk, step, is_data, format_places, version_places}
use Rattle.modules.proofs.Open.{every}

pub both_left : (a b : Bool) → T (both a b) → T a
both_left true b t = tt
both_left false b t = t

pub both_right : (a b : Bool) → T (both a b) → T b
both_right true b t = t
both_right false b t = absurd t

-- a test that each version passes
abbrev pub versions : (ℕ → Bool) → Bool
versions f = all 10 (λ n. f (suc n))

pub at_version : (f : ℕ → Bool) → T (versions f) → (v : ℕ) → 1 ≤ v → v ≤ 10 → T (f v)
at_version f t zero l m = absurd (omega arith)
at_version f t (suc n) l m = at 10 (λ n. f (suc n)) t n (omega arith)

-- ---- the walk and back

unfoldable pub there : ℕ → ℕ → Bool
there s k = let p = walk s k in both (eqb (step s (p / s) (p % s)) k) (ltb p (s * s))

pub walk_tested : T (versions (λ v. all (side v * (side v - 1)) (there (side v))))
unfolding every there
walk_tested = tt

unfoldable pub back : ℕ → ℕ → Bool
back s p = let k = step s (p / s) (p % s) in either (eqb (p % s) 6) (both (eqb (walk s k) p) (ltb k (s * (s - 1))))

pub step_tested : T (versions (λ v. all (side v * side v) (back (side v))))
unfolding every back
step_tested = tt

-- ---- column 6

pub six_tested : T (versions (λ v. all (side v) (λ i. not (is_data v (i * side v + 6)))))
unfolding every
six_tested = tt

-- ---- "8·total plus 7 more in versions 2 to 6 and none more otherwise"

pub order_tested : T (versions (λ v. eqb (length (order v)) (8 * total v + surplus v)))
unfolding every
order_tested = tt

-- ---- the words' places

unfoldable pub is_format : (copy b : ℕ) → Module → Bool
is_format copy b (Format c d) = both (eqb copy c) (eqb b d)
is_format copy b (Finder c) = false
is_format copy b (Timing c) = false
is_format copy b (Alignment c) = false
is_format copy b Dark = false
is_format copy b (Version c d) = false
is_format copy b Data = false

unfoldable pub is_version : (copy b : ℕ) → Module → Bool
is_version copy b (Version c d) = both (eqb copy c) (eqb b d)
is_version copy b (Finder c) = false
is_version copy b (Timing c) = false
is_version copy b (Alignment c) = false
is_version copy b Dark = false
is_version copy b (Format c d) = false
is_version copy b Data = false

unfoldable pub format_there : (v copy b : ℕ) → Bool
format_there v copy b =
    let p = get_or (format_places v copy) b 0 in both (ltb p (side v * side v)) (is_format copy b (module_of v (p / side v) (p % side v)))

unfoldable pub version_there : (v copy b : ℕ) → Bool
version_there v copy b =
    let p = get_or (version_places v copy) b 0 in both (ltb p (side v * side v)) (is_version copy b (module_of v (p / side v) (p % side v)))

pub format_tested : T (versions (λ v. all 2 (λ copy. all 15 (format_there v copy))))
unfolding every format_there is_format
format_tested = tt

pub version_tested : T (all 4 (λ n. all 2 (λ copy. all 18 (version_there (7 + n) copy))))
unfolding every version_there is_version
version_tested = tt
