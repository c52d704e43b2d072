-- The longest list: 154 empty byte segments fit 9-L, by computing, and no version and level holds more segments, since each has a head.
use mathlib.Core.Path.{◌≡◌, refl, subst}
use mathlib.Core.Bool.{Bool, true, cond}
use mathlib.Core.Logic.{◌⊎◌, inl, inr, by_cases}
use mathlib.Core.List.{List, []}
use Prim.Native.Nat.{ℕ, suc, ◌*◌, ◌≤◌}
use native.Mathlib.Decide.{ℕ_discrete}
use native.Mathlib.Omega.{arith}
use borrow.Author.Tests.{le-leb}
use lib.Dec.{T, leb, leb→le, eqb, eqb→eq}
use lib.ListN.{length}
use Rattle.basics.specs.Lists.{each}
use Rattle.basics.proofs.Test.{both, both_left, both_right, either, either_cases}
use Rattle.tables.specs.Tables
use Rattle.tables.proofs.Rules.{everywhere, rule}
use Rattle.stream.specs.Stream.{known, body_width, segments_width, lawful_list, counts, lawful_characters, fits}
use Rattle.stream.proofs.Fitting.{fit_width}
use Rattle.parse.proofs.Encode.{data_most}
use Rattle.parse.proofs.Load.{pairs_of, length_pairs, list_load, list_enough}
use Rattle.writer.specs.Writer.{Request, request, in_range, taken, refusal}
use Rattle.writer.proofs.Fit.{fit_rule, taken_named}
use Rattle.writer.proofs.Faults.{list_faulty}
use Rattle.writer.proofs.Drawn.{Sound, sound, taken_lawful}
use Rattle.promises.specs.Promises.{empty_segments, LongestList}
use Rattle.promises.proofs.ReadBack.{passes}

-- ---- 154 at 9-L

lawful_154 : lawful_list (empty_segments 154) ≡ true
unfolding empty_segments lawful_list known
lawful_154 = refl

counts_154 : counts (empty_segments 154) ≡ 0
unfolding empty_segments counts
counts_154 = refl

characters_154 : lawful_characters (empty_segments 154) [] ≡ true
unfolding empty_segments lawful_characters each
characters_154 = refl

fits_154 : fits 9 0 (empty_segments 154) ≡ true
unfolding empty_segments fits segments_width body_width Tables.count_width Tables.data_count Tables.total Tables.totals Tables.check_count Tables.check_rows Tables.block_count Tables.block_rows
fits_154 = refl

reached : (out mask : ℕ) → mask ≤ 8 → Tables.side 9 * Tables.side 9 ≤ out → refusal (request [] (empty_segments 154) 0 9 mask) out ≡ 0
unfolding refusal in_range
reached out mask m o =
    rw (le-leb mask 8 m, lawful_154, counts_154, characters_154, taken_named 0 9 (empty_segments 154) (λ e. omega arith) fits_154, le-leb (Tables.side 9 * Tables.side 9) out o)

-- ---- no more, and nowhere else

-- the bits of 154 heads are more than a version and level has, but for 9-L
abbrev heavy : (v level : ℕ) → Bool
heavy v level = either (both (eqb v 9) (eqb level 0)) (leb (suc (8 * Tables.data_count v level)) (cond (leb v 9) 12 15 * 154))

heavy_tested : T (everywhere heavy)
unfolding Tables.data_count Tables.total Tables.totals Tables.check_count Tables.check_rows Tables.block_count Tables.block_rows
heavy_tested = tt

alone : (v level : ℕ) (list : List ℕ) → Tables.Lawful v level → lawful_list list ≡ true → fits v level list ≡ true → length list ≡ 2 * 154 → (v ≡ 9) × (level ≡ 0)
alone v level list lawful modes fit long = by (either_cases (both (eqb v 9) (eqb level 0)) _ (rule heavy heavy_tested v level lawful))
  where
    few : cond (leb v 9) 12 15 * 154 ≤ 8 * Tables.data_count v level
    few =
        let e : pairs_of list ≡ 154 = omega (arith, length_pairs list modes) in
        let h : cond (leb v 9) 12 15 * 154 ≤ segments_width v list = subst (λ (n : ℕ). cond (leb v 9) 12 15 * n ≤ segments_width v list) e (list_load v list modes).heads in
        omega (arith, fit_width v level list fit)

    by : T (both (eqb v 9) (eqb level 0)) ⊎ T (leb (suc (8 * Tables.data_count v level)) (cond (leb v 9) 12 15 * 154)) → (v ≡ 9) × (level ≡ 0)
    by (inl t) = (eqb→eq v 9 (both_left (eqb v 9) (eqb level 0) t), eqb→eq level 0 (both_right (eqb v 9) (eqb level 0) t))
    by (inr t) = absurd (omega (arith, few, leb→le (suc (8 * Tables.data_count v level)) (cond (leb v 9) 12 15 * 154) t))

most : (r : Request) (out : ℕ) → refusal r out ≡ 0 → (length r.payload ≤ Tables.most_payload) × (length r.list ≤ 2 * 154)
most r out z =
    let n = list_enough v r.list modes (omega (arith, fit_width v r.level r.list fit, data_most v r.level lawful)) in
    (omega (arith, n.0, sums), n.1)
  where
    v : ℕ
    v = taken r.level r.version r.list

    s : Sound r out
    s = sound r out z

    lawful : Tables.Lawful (taken r.level r.version r.list) r.level
    lawful = taken_lawful r out z

    modes : lawful_list r.list ≡ true
    modes = passes (lawful_list r.list) (λ f. s.modes (list_faulty r.list f))

    sums : counts r.list ≡ length r.payload
    sums = by_cases (ℕ_discrete (counts r.list) (length r.payload)) (λ e. e) (λ n. absurd (s.sums n))

    fit : fits (taken r.level r.version r.list) r.level r.list ≡ true
    fit = (fit_rule r.level r.version r.list).takes (λ e. omega (arith, lawful.least))

pub longest_list : LongestList
longest_list = record { reached = reached; alone = alone; most = most }
