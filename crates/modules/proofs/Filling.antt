-- The walk that fills: `put_all` in two stretches, its length and count, and what it leaves over a version's kinds: `filled_all`.
use mathlib.Core.Path.{◌≡◌, refl, sym, ap, ◌∙◌}
use mathlib.Core.Logic.{◌⊎◌, inl, inr, ⊎_elim}
use mathlib.Core.Bool.{Bool, true, false, cond}
use mathlib.Core.List.{List, [], ◌∷◌, map}
use Prim.Native.Nat.{ℕ, zero, suc, ◌+◌, ◌-◌, ◌*◌, ◌/◌, ◌%◌, ◌≤◌, ◌<◌}
use native.Mathlib.Nat.{sub-zero, zero-mul, add-zero, add-suc, suc-mul, mul-add-div_right, mul-add-mod_self_right, div-eq_of_lt, mod-eq_of_lt, mul-le-mul, le_refl, lt_irrefl}
use native.Mathlib.Numerals.{add-one}
use native.Mathlib.Omega.{arith}
use lib.Dec.{T, eqb, eqb→eq}
use lib.ListN.{length, get_or, set, length-set, get_or-eq_default}
use lib.Seq.{ext_get_or, get_or-set_same, get_or-set_other}
use borrow.Author.Tests.{eq-eqb, ne_eqb, eqb-true, eqb-false}
use Rattle.basics.specs.Bits.{byte_bits, bit_of}
use Rattle.basics.specs.Lists.{up_to}
use Rattle.basics.proofs.Bits.{get_d_byte_bits, length_byte_bits, bit_le}
use Rattle.basics.proofs.Lists.{length_map_up_to, get_d_map_up_to}
use Rattle.tables.specs.Tables.{side}
use Rattle.words.specs.Words.{version_word}
use Rattle.modules.specs.Modules.{Module, Finder, Timing, Alignment, Dark, Format, Version, Data, remains, is_data, pair_column, walk, step, met, fill}
use Rattle.modules.specs.Geometry.{module_on}
use Rattle.modules.specs.Kinds.{kind, kinds, laid, Filling, filling, put_if, put, put_all, pair_place}
use Rattle.modules.proofs.Kept.{not_both, one_more_kept, rank, rank_suc, fill_at}
use Rattle.modules.proofs.Tests.{versions, at_version}
use Rattle.modules.proofs.Geometry.{data_module, low_module, Low, met_at, walk_back, walk_inside, step_there}

-- ---- one module more, and two stretches

module _ (bs : List ℕ) where
  pub put_none : (place : ℕ → ℕ) (f : Filling) → f ≡ put_all bs place 0 f
  unfolding put_all
  put_none place f = refl

  pub put_more : (place : ℕ → ℕ) (f g h : Filling) (k p : ℕ) → g ≡ put_all bs place k f → p ≡ place k → h ≡ put bs g p → h ≡ put_all bs place (suc k) f
  unfolding put_all
  put_more place f g h k p e q r = r ∙ rw (e, q)

  pub put_join : (place : ℕ → ℕ) (a b : ℕ) (f : Filling) → put_all bs (λ r. place (a + r)) b (put_all bs place a f) ≡ put_all bs place (a + b) f
  unfolding put_all
  put_join place a zero f = rw add-zero
  put_join place a (suc b) f = rw (add-suc, put_join place a b f)

  put_if_length : (t : Bool) (m : List ℕ) (n p : ℕ) → length (put_if t bs m n p).matrix ≡ length m
  put_if_length true m n p = length-set m p (2 + get_or bs n 0)
  put_if_length false m n p = refl

  pub put_all_length : (place : ℕ → ℕ) (k : ℕ) (f : Filling) → length (put_all bs place k f).matrix ≡ length f.matrix
  unfolding put put_all
  put_all_length place zero f = refl
  put_all_length place (suc k) f =
      let g = put_all bs place k f in
      put_if_length (eqb (get_or g.matrix (place k) 0) 2) g.matrix g.used (place k) ∙ put_all_length place k f

  put_if_used : (t : Bool) (m : List ℕ) (n p : ℕ) → (put_if t bs m n p).used ≤ suc n
  put_if_used true m n p = omega arith
  put_if_used false m n p = omega arith

  pub put_all_used : (place : ℕ → ℕ) (k : ℕ) (f : Filling) → (put_all bs place k f).used ≤ f.used + k
  unfolding put put_all
  put_all_used place zero f = omega arith
  put_all_used place (suc k) f =
      let g = put_all bs place k f in
      omega (arith, put_if_used (eqb (get_or g.matrix (place k) 0) 2) g.matrix g.used (place k), put_all_used place k f)

  -- the same of a state that is known to be so filled
  pub kept_length : (place : ℕ → ℕ) (k : ℕ) (m m₀ : List ℕ) (n n₀ : ℕ) → filling m n ≡ put_all bs place k (filling m₀ n₀) → length m ≡ length m₀
  kept_length place k m m₀ n n₀ e = ap (λ (f : Filling). length f.matrix) e ∙ put_all_length place k (filling m₀ n₀)

  pub few_used : (place : ℕ → ℕ) (k : ℕ) (m m₀ : List ℕ) (n n₀ : ℕ) → filling m n ≡ put_all bs place k (filling m₀ n₀) → n ≤ n₀ + k
  few_used place k m m₀ n n₀ e = rw (ap (λ (f : Filling). f.used) e) (put_all_used place k (filling m₀ n₀))

-- ---- the places that a column pair meets

pub pair_place_lem : (s q t c : ℕ) → t < s → c < 2 → pair_place s q (2 * t + c) ≡ cond (eqb (q % 2) 0) (s - 1 - t) t * s + (pair_column s q - c)
unfolding pair_place walk
pair_place_lem s q t c ht hc =
    let some : 0 < 2 * s = omega arith in
    let few : 2 * t + c < 2 * s = omega arith in
    let turn : (q * (2 * s) + (2 * t + c)) / (2 * s) ≡ q = mul-add-div_right some q (2 * t + c) ∙ ap (λ (n : ℕ). q + n) (div-eq_of_lt few) ∙ add-zero q in
    let rest : (q * (2 * s) + (2 * t + c)) % (2 * s) ≡ 2 * t + c = mul-add-mod_self_right q (2 * s) (2 * t + c) ∙ mod-eq_of_lt few in
    let half : (2 * t + c) / 2 ≡ t = omega arith in
    let odd : (2 * t + c) % 2 ≡ c = omega arith in
    rw (turn, rest, half, odd)

-- ---- codeword bit n

pub bit_inside : (xs : List ℕ) (n x r : ℕ) → n / 8 < length xs → x ≡ get_or xs (n / 8) 0 → r ≡ bit_of x (7 - n % 8) → r ≡ get_or (byte_bits xs) n 0
bit_inside xs n x r h e q =
    let whole : 8 * (n / 8) + n % 8 ≡ n = omega arith in
    q ∙ rw e (sym (get_d_byte_bits xs (n / 8) (n % 8) (omega arith) h) ∙ ap (λ (n : ℕ). get_or (byte_bits xs) n 0) whole)

pub bit_past : (xs : List ℕ) (n : ℕ) → length xs ≤ n / 8 → get_or (byte_bits xs) n 0 ≡ 0
bit_past xs n h = get_or-eq_default (byte_bits xs) 0 (rw (length_byte_bits xs) (omega arith))

-- the code's places are those that the pair meets
module _ (v q t s row right p : ℕ) (e : s ≡ side v) (few : t < s) (r : row ≡ cond (eqb (q % 2) 0) (s - 1 - t) t) (c : right ≡ pair_column s q) (h : p ≡ row * s + right) where
  pub first_place : p ≡ pair_place (side v) q (2 * t)
  first_place =
      let there : pair_place s q (2 * t + 0) ≡ row * s + right = pair_place_lem s q t 0 few (omega arith) ∙ rw (r, c, sub-zero) in
      h ∙ sym there ∙ rw (e, add-zero)

  pub second_place : 1 ≤ right → p - 1 ≡ pair_place (side v) q (suc (2 * t))
  second_place l =
      let there : pair_place s q (2 * t + 1) ≡ row * s + (right - 1) = pair_place_lem s q t 1 few (omega arith) ∙ rw (r, c) in
      let back : p - 1 ≡ row * s + (right - 1) = omega arith in
      back ∙ sym there ∙ rw (e, add-one)

-- ---- what the walk leaves over a version's kinds

decide : (t : Bool) → (t ≡ true) ⊎ (t ≡ false)
decide true = inl refl
decide false = inr refl

kind_other : (v : ℕ) (m : Module) → remains m ≡ false → Low m → kind v m 0 ≡ 2 → ⊥
unfolding Low
kind_other v (Finder c) r l e = omega arith
kind_other v (Timing c) r l e = omega arith
kind_other v (Alignment c) r l e = omega arith
kind_other v Dark r l e = omega arith
kind_other v (Format c b) r l e = omega arith
kind_other v (Version c b) r l e = omega (arith, bit_le (version_word v) b)
kind_other v Data r l e = not_both (sym r)

kind_still : (v : ℕ) (m : Module) (b : ℕ) → remains m ≡ false → kind v m b ≡ kind v m 0
kind_still v (Finder c) b r = refl
kind_still v (Timing c) b r = refl
kind_still v (Alignment c) b r = refl
kind_still v Dark b r = refl
kind_still v (Format c d) b r = refl
kind_still v (Version c d) b r = refl
kind_still v Data b r = absurd (not_both (sym r))

module _ (v : ℕ) (least : 1 ≤ v) (most : v ≤ 10) (bs : List ℕ) where
  -- the step that meets place p
  abbrev step_on : ℕ → ℕ
  step_on p = step (side v) (p / side v) (p % side v)

  -- after k steps
  record Partly (k : ℕ) (m : List ℕ) (n : ℕ) : Type 0 where
    long : length m ≡ side v * side v
    count : n ≡ rank (met v) k
    done : (p : ℕ) → p < side v * side v → is_data v p ≡ true → step_on p < k → get_or m p 0 ≡ 2 + get_or bs (rank (met v) (step_on p)) 0
    free : (p : ℕ) → p < side v * side v → is_data v p ≡ true → k ≤ step_on p → get_or m p 0 ≡ 2
    rest : (p : ℕ) → p < side v * side v → is_data v p ≡ false → get_or m p 0 ≡ kind v (module_on v p) 0

  rank_zero : (ts : List Bool) → 0 ≡ rank ts 0
  rank_zero [] = refl
  rank_zero (t ∷ ts) = refl

  kinds_at : (p : ℕ) → p < side v * side v → get_or (kinds v) p 0 ≡ kind v (module_on v p) 0
  unfolding kinds
  kinds_at p h = get_d_map_up_to (λ p. kind v (module_on v p) 0) (side v * side v) p 0 h

  pub kinds_length : length (kinds v) ≡ side v * side v
  unfolding kinds
  kinds_length = length_map_up_to (λ p. kind v (module_on v p) 0) (side v * side v)

  start : Partly 0 (kinds v) 0
  unfolding is_data
  start =
      record {
        long = kinds_length;
        count = rank_zero (met v);
        done = λ p h d l. absurd (omega arith);
        free = λ p h d l. kinds_at p h ∙ ap (λ (m : Module). kind v m 0) (data_module (module_on v p) d);
        rest = λ p h d. kinds_at p h;
      }

  module _ (k : ℕ) (few : k < side v * (side v - 1)) (m : List ℕ) (n : ℕ) (now : Partly k m n) where
    at : ℕ
    at = walk (side v) k

    meets : (p : ℕ) → p < side v * side v → is_data v p ≡ true → step_on p ≡ k → p ≡ walk (side v) k
    meets p h d e = sym (step_there v least most p h d).0 ∙ ap (walk (side v)) e

    after_data : is_data v (walk (side v) k) ≡ true → Partly (suc k) (set m (walk (side v) k) (2 + get_or bs n 0)) (n + 1)
    after_data d =
        let place : ℕ = walk (side v) k in
        let inside : place < length m = rw now.long (walk_inside v least most k few) in
        let back : step_on place ≡ k = walk_back v least most k few in
        let other : (p : ℕ) → (p ≡ place → ⊥) → get_or (set m place (2 + get_or bs n 0)) p 0 ≡ get_or m p 0 = λ p no. get_or-set_other m place p (2 + get_or bs n 0) 0 no in
        record {
          long = length-set m place (2 + get_or bs n 0) ∙ now.long;
          count = add-one n ∙ ap suc now.count ∙ sym (rank_suc (met v) k ∙ ap (λ (t : Bool). one_more_kept t (rank (met v) k)) (met_at v least most k few ∙ d));
          done = λ p h e l.
              ⊎_elim
              (λ (y : eqb p place ≡ true).
              let same : p ≡ place = eqb-true p place y in
              ap (λ (p : ℕ). get_or (set m place (2 + get_or bs n 0)) p 0) same ∙ get_or-set_same m place (2 + get_or bs n 0) 0 inside
              ∙ ap (λ (n : ℕ). 2 + get_or bs n 0) (now.count ∙ ap (rank (met v)) (sym (ap step_on same ∙ back))))
              (λ (y : eqb p place ≡ false).
              let no : p ≡ place → ⊥ = eqb-false p place y in
              let not : step_on p ≡ k → ⊥ = λ q. no (meets p h e q) in
              other p no ∙ now.done p h e (omega arith))
              (decide (eqb p place));
          free = λ p h e l.
              let no : p ≡ place → ⊥ = λ q. lt_irrefl k (rw (ap step_on q ∙ back) at l) in
              other p no ∙ now.free p h e (omega arith);
          rest = λ p h e. other p (λ q. not_both (sym e ∙ ap (is_data v) q ∙ d)) ∙ now.rest p h e;
        }

    after_other : is_data v (walk (side v) k) ≡ false → Partly (suc k) m n
    after_other d =
        record {
          long = now.long;
          count = now.count ∙ sym (rank_suc (met v) k ∙ ap (λ (t : Bool). one_more_kept t (rank (met v) k)) (met_at v least most k few ∙ d));
          done = λ p h e l.
              let not : step_on p ≡ k → ⊥ = λ q. not_both (sym (sym e ∙ ap (is_data v) (meets p h e q) ∙ d)) in
              now.done p h e (omega arith);
          free = λ p h e l. now.free p h e (omega arith);
          rest = now.rest;
        }

    next : Partly (suc k) (put bs (filling m n) (walk (side v) k)).matrix (put bs (filling m n) (walk (side v) k)).used
    unfolding put is_data
    next =
        let place : ℕ = walk (side v) k in
        let inside : place < side v * side v = walk_inside v least most k few in
        ⊎_elim
        (λ (d : is_data v place ≡ true).
        let empty : get_or m place 0 ≡ 2 = now.free place inside d (omega (arith, walk_back v least most k few)) in
        rw (eq-eqb (get_or m place 0) 2 empty) (after_data d))
        (λ (d : is_data v place ≡ false).
        let taken : get_or m place 0 ≡ 2 → ⊥ = λ e. kind_other v (module_on v place) d (low_module v (place / side v) (place % side v)) (sym (now.rest place inside d) ∙ e) in
        rw (ne_eqb (get_or m place 0) 2 taken) (after_other d))
        (decide (is_data v place))

  partly : (k : ℕ) → k ≤ side v * (side v - 1)
      → Partly k (put_all bs (walk (side v)) k (filling (kinds v) 0)).matrix (put_all bs (walk (side v)) k (filling (kinds v) 0)).used
  unfolding put_all
  partly zero h = start
  partly (suc k) h = next k h _ _ (partly k (omega arith))

  data_filled : (p : ℕ) → p < side v * side v → is_data v p ≡ true → get_or (fill (met v) bs) (step_on p) 0 ≡ get_or bs (rank (met v) (step_on p)) 0
  data_filled p h d =
      let w = step_there v least most p h d in
      fill_at (met v) bs (step_on p) (met_at v least most (step_on p) w.1 ∙ ap (is_data v) w.0 ∙ d)

  pub filled_all : (put_all bs (walk (side v)) (side v * (side v - 1)) (filling (kinds v) 0)).matrix
      ≡ map (λ p. kind v (module_on v p) (get_or (fill (met v) bs) (step_on p) 0)) (up_to (side v * side v))
  unfolding is_data
  filled_all =
      let whole = partly (side v * (side v - 1)) (le_refl _) in
      let f : ℕ → ℕ = λ p. kind v (module_on v p) (get_or (fill (met v) bs) (step_on p) 0) in
      ext_get_or 0 _ _ (whole.long ∙ sym (length_map_up_to f (side v * side v)))
      (λ p l.
      let h : p < side v * side v = rw whole.long at l in
      ⊎_elim
      (λ (d : is_data v p ≡ true).
      whole.done p h d (step_there v least most p h d).1
      ∙ ap (λ (n : ℕ). 2 + n) (sym (data_filled p h d))
      ∙ ap (λ (m : Module). kind v m (get_or (fill (met v) bs) (step_on p) 0)) (sym (data_module (module_on v p) d))
      ∙ sym (get_d_map_up_to f (side v * side v) p 0 h))
      (λ (d : is_data v p ≡ false).
      whole.rest p h d ∙ sym (kind_still v (module_on v p) (get_or (fill (met v) bs) (step_on p) 0) d) ∙ sym (get_d_map_up_to f (side v * side v) p 0 h))
      (decide (is_data v p)))

-- ---- pair by pair

steps_tested : T (versions (λ v. eqb ((2 * v + 8) * (2 * side v)) (side v * (side v - 1))))
steps_tested = tt

module _ (v : ℕ) (least : 1 ≤ v) (most : v ≤ 10) (cs : List ℕ) where
  pub all_steps : (2 * v + 8) * (2 * side v) ≡ side v * (side v - 1)
  all_steps = eqb→eq _ _ (at_version (λ v. eqb ((2 * v + 8) * (2 * side v)) (side v * (side v - 1))) steps_tested v least most)

  pub few_steps : (q : ℕ) → q < 2 * v + 8 → q * (2 * side v) + 2 * side v ≤ 3192
  few_steps q h =
      let most_rows : suc q * (2 * side v) ≤ 28 * 114 = mul-le-mul {n₁ = suc q} {m₁ = 2 * side v} {n₂ = 28} {m₂ = 114} (omega arith) (omega arith) in
      omega (arith, rw suc-mul at most_rows)

  pub none_yet : (m : List ℕ) → m ≡ kinds v → filling m 0 ≡ put_all (byte_bits cs) (walk (side v)) (0 * (2 * side v)) (filling (kinds v) 0)
  unfolding put_all
  none_yet m e = ap (λ (m : List ℕ). filling m 0) e ∙ ap (λ (k : ℕ). put_all (byte_bits cs) (walk (side v)) k (filling (kinds v) 0)) (sym (zero-mul (2 * side v)))

  -- one pair more
  pub pair_more : (q : ℕ) (m m' : List ℕ) (n n' : ℕ) → filling m n ≡ put_all (byte_bits cs) (walk (side v)) (q * (2 * side v)) (filling (kinds v) 0)
      → filling m' n' ≡ put_all (byte_bits cs) (pair_place (side v) q) (2 * side v) (filling m n)
      → filling m' n' ≡ put_all (byte_bits cs) (walk (side v)) ((q + 1) * (2 * side v)) (filling (kinds v) 0)
  unfolding pair_place
  pair_more q m m' n n' e r =
      let count : q * (2 * side v) + 2 * side v ≡ (q + 1) * (2 * side v) = sym (suc-mul q (2 * side v)) ∙ ap (λ (n : ℕ). n * (2 * side v)) (sym (add-one q)) in
      r ∙ ap (put_all (byte_bits cs) (pair_place (side v) q) (2 * side v)) e
      ∙ put_join (byte_bits cs) (walk (side v)) (q * (2 * side v)) (2 * side v) (filling (kinds v) 0)
      ∙ ap (λ (k : ℕ). put_all (byte_bits cs) (walk (side v)) k (filling (kinds v) 0)) count

  -- after the last pair
  pub laid_all : (m : List ℕ) (n q : ℕ) → q ≡ 2 * v + 8 → filling m n ≡ put_all (byte_bits cs) (walk (side v)) (q * (2 * side v)) (filling (kinds v) 0) → m ≡ laid v cs
  unfolding laid
  laid_all m n q h e =
      let count : q * (2 * side v) ≡ side v * (side v - 1) = ap (λ (q : ℕ). q * (2 * side v)) h ∙ all_steps in
      ap (λ (f : Filling). f.matrix) e ∙ ap (λ (k : ℕ). (put_all (byte_bits cs) (walk (side v)) k (filling (kinds v) 0)).matrix) count
      ∙ filled_all v least most (byte_bits cs)
