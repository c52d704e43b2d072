-- The layout's laws, read off the computed tests: `placement`, that words have places of their own, and
-- what stands at each data module and each word's place of a drawn symbol.
use mathlib.Core.Path.{◌≡◌, refl, sym, ap, ap₂, subst, ◌∙◌}
use mathlib.Core.Logic.{⊎_elim}
use mathlib.Core.Bool.{Bool, true, false, not, cond, ◌&&◌, ◌||◌}
use mathlib.Core.List.{List, [], ◌∷◌, ◌++◌, map}
use Prim.Native.Nat.{ℕ, zero, suc, ◌+◌, ◌-◌, ◌*◌, ◌/◌, ◌%◌, ◌≤◌, ◌<◌}
use native.Mathlib.Nat.{div-lt_iff_lt-mul, div-add-mod', mod-lt}
use native.Mathlib.Omega.{arith}
use lib.Bits.{bit_xor}
use lib.Dec.{T, T_not, eqb, leb, ltb, eqb→eq, ltb→lt}
use lib.ListN.{length, get_or}
use Rattle.basics.specs.Bits.{byte_bits}
use Rattle.basics.specs.Lists.{up_to, place_in, AtMost}
use Rattle.basics.specs.Sums.{one}
use Rattle.basics.proofs.Bits.{byte_bits_le, bit_le}
use Rattle.basics.proofs.Sums.{one_le}
use Rattle.basics.proofs.Lists.{length_map_up_to, get_d_map_up_to}
use Rattle.basics.proofs.Test.{all, at, grid, cube, both, either_cases}
use Rattle.tables.specs.Tables.{side, total, surplus}
use Rattle.words.specs.Words.{format_word, format_bits, version_word}
use Rattle.modules.specs.Modules.{Module, Format, Version, Finder, Timing, Alignment, Dark, Data, remains, colour, finder, finder_colour, timing, alignment, copy_at, word_module, module_of, order, walk, step, met, fill, mask_numbers, flips, is_data, format_places, version_places, module_at, symbol}
use Rattle.modules.specs.Geometry.{PlacedOnce, WordPlaces, Placement, Filled, FormatDrawn, VersionDrawn, module_on}
use Rattle.modules.proofs.Kept.{not_both, count, nth, rank, nth_lt, nth_passes, rank_nth, rank_lt, nth_rank, length_keep, keep_nth, fill_at, fill_le}
use Rattle.modules.proofs.Tests.{at_version, both_left, both_right, there, walk_tested, back, step_tested, six_tested, order_tested, is_format, is_version, format_there, version_there, format_tested, version_tested}

-- an equation as a test's truth
pub untruth : (t : Bool) → t ≡ true → T t
untruth true e = tt
untruth false e = absurd (not_both e)

pub data_module : (m : Module) → remains m ≡ true → m ≡ Data
data_module (Finder c) e = absurd (not_both e)
data_module (Timing c) e = absurd (not_both e)
data_module (Alignment c) e = absurd (not_both e)
data_module Dark e = absurd (not_both e)
data_module (Format c b) e = absurd (not_both e)
data_module (Version c b) e = absurd (not_both e)
data_module Data e = refl

is_format_lem : (copy b : ℕ) (m : Module) → T (is_format copy b m) → m ≡ Format copy b
unfolding is_format
is_format_lem copy b (Format c d) t =
    ap₂ Format (sym (eqb→eq copy c (both_left (eqb copy c) (eqb b d) t))) (sym (eqb→eq b d (both_right (eqb copy c) (eqb b d) t)))
is_format_lem copy b (Finder c) t = absurd t
is_format_lem copy b (Timing c) t = absurd t
is_format_lem copy b (Alignment c) t = absurd t
is_format_lem copy b Dark t = absurd t
is_format_lem copy b (Version c d) t = absurd t
is_format_lem copy b Data t = absurd t

is_version_lem : (copy b : ℕ) (m : Module) → T (is_version copy b m) → m ≡ Version copy b
unfolding is_version
is_version_lem copy b (Version c d) t =
    ap₂ Version (sym (eqb→eq copy c (both_left (eqb copy c) (eqb b d) t))) (sym (eqb→eq b d (both_right (eqb copy c) (eqb b d) t)))
is_version_lem copy b (Finder c) t = absurd t
is_version_lem copy b (Timing c) t = absurd t
is_version_lem copy b (Alignment c) t = absurd t
is_version_lem copy b Dark t = absurd t
is_version_lem copy b (Format c d) t = absurd t
is_version_lem copy b Data t = absurd t

map_map : {A : Type 0} (f : ℕ → A) (g : ℕ → ℕ) (xs : List ℕ) → map f (map g xs) ≡ map (λ x. f (g x)) xs
map_map f g [] = refl
map_map {A} f g (x ∷ xs) = ap (λ (ys : List A). f (g x) ∷ ys) (map_map f g xs)

-- ---- colours are 0 or 1, and a format bit's number is at most 14

unfoldable pub Low : Module → Type 0
Low (Finder c) = c ≤ 1
Low (Timing c) = c ≤ 1
Low (Alignment c) = c ≤ 1
Low Dark = Unit {0}
Low (Format c b) = b ≤ 14
Low (Version c b) = Unit {0}
Low Data = Unit {0}

low_either : (t : Bool) (a b : Module) → Low a → Low b → Low (cond t a b)
low_either true a b ha hb = ha
low_either false a b ha hb = hb

low_copy : (places : List ℕ) (n p : ℕ) (copy : ℕ → ℕ → Module) → 0 < n → ((c b : ℕ) → b < n → Low (copy c b)) → Low (copy_at places n p copy)
unfolding copy_at Low
low_copy places n p copy some h =
    let k = place_in places p in
    low_either (ltb k (length places)) (copy (k / n) (k % n)) Data (h (k / n) (k % n) (mod-lt k some)) tt

small : (b : ℕ) → b < 15 → b ≤ 14
small b l = omega arith

low_word : (v i j : ℕ) → Low (word_module v i j)
unfolding word_module Low
low_word v i j =
    let p = i * side v + j in
    let format = copy_at (format_places v 0 ++ format_places v 1) 15 p Format in
    let version = copy_at (version_places v 0 ++ version_places v 1) 18 p Version in
    low_either (eqb i 8 || eqb j 8) format (cond (leb i 5 || leb j 5) version Data) (low_copy _ 15 p Format (omega arith) (λ c b l. small b l))
    (low_either (leb i 5 || leb j 5) version Data (low_copy _ 18 p Version (omega arith) (λ c b l. tt)) tt)

pub low_module : (v i j : ℕ) → Low (module_of v i j)
unfolding module_of finder_colour Low
low_module v i j =
    let s = side v in
    let d = finder s i j in
    let a = alignment v i j in
    let dark = cond (eqb i (s - 8) && eqb j 8) Dark (word_module v i j) in
    let aligned = cond (leb a 2) (Alignment (one (not (eqb a 1)))) dark in
    let timed = cond (timing s i j) (Timing (one (eqb ((i + j) % 2) 0))) aligned in
    low_either (leb d 4) (Finder (finder_colour d)) timed (one_le (leb d 1 || eqb d 3))
    (low_either (timing s i j) (Timing (one (eqb ((i + j) % 2) 0))) aligned (one_le (eqb ((i + j) % 2) 0))
    (low_either (leb a 2) (Alignment (one (not (eqb a 1)))) dark (one_le (not (eqb a 1)))
    (low_either (eqb i (s - 8) && eqb j 8) Dark (word_module v i j) tt (low_word v i j))))

xor_low_bits : (a b : ℕ) → a < 2 → b < 2 → bit_xor a b < 2
xor_low_bits a b ha hb = ltb→lt _ _ (grid 2 2 (λ a b. ltb (bit_xor a b) 2) tt a b ha hb)

low_colour : (v level mask : ℕ) (m : Module) (bit flip : ℕ) → Low m → bit ≤ 1 → flip ≤ 1 → colour v level mask m bit flip ≤ 1
unfolding Low
low_colour v level mask (Finder c) bit flip h hb hf = h
low_colour v level mask (Timing c) bit flip h hb hf = h
low_colour v level mask (Alignment c) bit flip h hb hf = h
low_colour v level mask Dark bit flip h hb hf = omega arith
low_colour v level mask (Format c b) bit flip h hb hf = bit_le (format_word (format_bits level mask)) b
low_colour v level mask (Version c b) bit flip h hb hf = bit_le (version_word v) b
low_colour v level mask Data bit flip h hb hf = omega (arith, xor_low_bits bit flip (omega arith) (omega arith))

pub at_any : (n : ℕ) (xs : List ℕ) → AtMost n xs → (k : ℕ) → get_or xs k 0 ≤ n
at_any n [] h k = omega arith
at_any n (x ∷ xs) h zero = h 0 (omega arith)
at_any n (x ∷ xs) h (suc k) = at_any n xs (λ i l. h (suc i) (omega arith)) k

pub flips_le : (mask i j : ℕ) → flips mask i j ≤ 1
unfolding flips
flips_le mask i j = one_le (eqb (get_or (mask_numbers i j) mask 1) 0)

module _ (v : ℕ) (least : 1 ≤ v) (most : v ≤ 10) where
  -- ---- the walk

  met_there : (k : ℕ) → k < side v * (side v - 1) → T (there (side v) k)
  met_there k h = at _ (there (side v)) (at_version (λ v. all (side v * (side v - 1)) (there (side v))) walk_tested v least most) k h

  pub walk_back : (k : ℕ) → k < side v * (side v - 1) → step (side v) (walk (side v) k / side v) (walk (side v) k % side v) ≡ k
  unfolding there
  walk_back k h =
      let p = walk (side v) k in
      eqb→eq _ k (both_left (eqb (step (side v) (p / side v) (p % side v)) k) (ltb p (side v * side v)) (met_there k h))

  pub walk_inside : (k : ℕ) → k < side v * (side v - 1) → walk (side v) k < side v * side v
  unfolding there
  walk_inside k h =
      let p = walk (side v) k in
      ltb→lt p _ (both_right (eqb (step (side v) (p / side v) (p % side v)) k) (ltb p (side v * side v)) (met_there k h))

  -- no two steps meet one module
  pub walk_once : (j k : ℕ) → j < side v * (side v - 1) → k < side v * (side v - 1) → walk (side v) j ≡ walk (side v) k → j ≡ k
  walk_once j k hj hk e = sym (walk_back j hj) ∙ ap (λ (p : ℕ). step (side v) (p / side v) (p % side v)) e ∙ walk_back k hk

  -- column 6 has no data module
  pub column_six : (p : ℕ) → p < side v * side v → is_data v p ≡ true → p % side v ≡ 6 → ⊥
  column_six p h d e =
      let row : p / side v < side v = (div-lt_iff_lt-mul {k = side v} {x = p} {y = side v} (omega arith)).1 h in
      let six : T (not (is_data v (p / side v * side v + 6))) =
      at (side v) (λ i. not (is_data v (i * side v + 6))) (at_version (λ v. all (side v) (λ i. not (is_data v (i * side v + 6)))) six_tested v least most) (p / side v) row in
      let same : p / side v * side v + 6 ≡ p = ap (λ (c : ℕ). p / side v * side v + c) (sym e) ∙ div-add-mod' p (side v) in
      T_not (is_data v p) (rw same at six) (untruth (is_data v p) d)

  -- each data module is met
  pub step_there : (p : ℕ) → p < side v * side v → is_data v p ≡ true
      → (walk (side v) (step (side v) (p / side v) (p % side v)) ≡ p) × (step (side v) (p / side v) (p % side v) < side v * (side v - 1))
  unfolding back
  step_there p h d =
      let k = step (side v) (p / side v) (p % side v) in
      let s = side v in
      ⊎_elim (λ six. absurd (column_six p h d (eqb→eq (p % s) 6 six)))
      (λ t. (eqb→eq (walk s k) p (both_left (eqb (walk s k) p) (ltb k (s * (s - 1))) t), ltb→lt k _ (both_right (eqb (walk s k) p) (ltb k (s * (s - 1))) t)))
      (either_cases (eqb (p % s) 6) (both (eqb (walk s k) p) (ltb k (s * (s - 1))))
      (at (s * s) (back s) (at_version (λ v. all (side v * side v) (back (side v))) step_tested v least most) p h))

  -- ---- the data modules in their order

  pub met_at : (j : ℕ) → j < side v * (side v - 1) → get_or (met v) j false ≡ is_data v (walk (side v) j)
  unfolding met
  met_at j h = get_d_map_up_to (λ k. is_data v (walk (side v) k)) (side v * (side v - 1)) j false h

  met_map : map (is_data v) (map (walk (side v)) (up_to (side v * (side v - 1)))) ≡ met v
  unfolding met
  met_map = map_map (is_data v) (walk (side v)) (up_to (side v * (side v - 1)))

  met_length : length (met v) ≡ side v * (side v - 1)
  unfolding met
  met_length = length_map_up_to (λ k. is_data v (walk (side v) k)) (side v * (side v - 1))

  pub order_count : length (order v) ≡ count (met v)
  unfolding order
  order_count = length_keep (is_data v) (map (walk (side v)) (up_to (side v * (side v - 1)))) ∙ ap count met_map

  -- the step that meets data module k
  pub nth_step : (k : ℕ) → k < length (order v) → nth (met v) k < side v * (side v - 1)
  nth_step k h = rw met_length at (nth_lt (met v) k (rw order_count at h))

  pub order_at : (k : ℕ) → k < length (order v) → get_or (order v) k 0 ≡ walk (side v) (nth (met v) k)
  unfolding order
  order_at k h =
      let c : k < count (map (is_data v) (map (walk (side v)) (up_to (side v * (side v - 1))))) = rw met_map (rw order_count at h) in
      keep_nth (is_data v) (map (walk (side v)) (up_to (side v * (side v - 1)))) k c
      ∙ ap (λ (ts : List Bool). get_or (map (walk (side v)) (up_to (side v * (side v - 1)))) (nth ts k) 0) met_map
      ∙ get_d_map_up_to (walk (side v)) (side v * (side v - 1)) (nth (met v) k) 0 (nth_step k h)

  nth_data : (k : ℕ) → k < length (order v) → is_data v (walk (side v) (nth (met v) k)) ≡ true
  nth_data k h = sym (met_at (nth (met v) k) (nth_step k h)) ∙ nth_passes (met v) k (rw order_count at h)

  nth_back : (k : ℕ) → k < length (order v) → rank (met v) (nth (met v) k) ≡ k
  nth_back k h = rank_nth (met v) k (rw order_count at h)

  order_all : (p : ℕ) → p < side v * side v → is_data v p ≡ true → (k : ℕ) × (k < length (order v)) × (get_or (order v) k 0 ≡ p)
  order_all p h d =
      let s = side v in
      let j = step s (p / s) (p % s) in
      let w = step_there p h d in
      let passes : get_or (met v) j false ≡ true = met_at j w.1 ∙ ap (is_data v) w.0 ∙ d in
      let few : rank (met v) j < length (order v) = rw order_count (rank_lt (met v) j passes) in
      (rank (met v) j, few, order_at (rank (met v) j) few ∙ ap (walk s) (nth_rank (met v) j passes) ∙ w.0)

  order_once : (j k : ℕ) → j < length (order v) → k < length (order v) → get_or (order v) j 0 ≡ get_or (order v) k 0 → j ≡ k
  order_once j k hj hk e =
      sym (nth_back j hj)
      ∙ ap (rank (met v)) (walk_once (nth (met v) j) (nth (met v) k) (nth_step j hj) (nth_step k hk) (sym (order_at j hj) ∙ e ∙ order_at k hk))
      ∙ nth_back k hk

  pub order_length : length (order v) ≡ 8 * total v + surplus v
  order_length = eqb→eq _ _ (at_version (λ v. eqb (length (order v)) (8 * total v + surplus v)) order_tested v least most)

  pub placed_once : PlacedOnce v
  placed_once =
      record {
        inside = λ k h. rw (order_at k h) (walk_inside (nth (met v) k) (nth_step k h));
        data_only = λ k h. rw (order_at k h) (nth_data k h);
        all = order_all;
        once = order_once;
        count = order_length;
        back = walk_back;
      }

  -- ---- the words' places

  format_there_lem : (copy b : ℕ) → copy < 2 → b < 15 → T (format_there v copy b)
  format_there_lem = grid 2 15 (format_there v) (at_version (λ v. all 2 (λ copy. all 15 (format_there v copy))) format_tested v least most)

  version_there_lem : (copy b : ℕ) → 7 ≤ v → copy < 2 → b < 18 → T (version_there v copy b)
  version_there_lem copy b h =
      let e : 7 + (v - 7) ≡ v = omega arith in
      subst (λ (v : ℕ). copy < 2 → b < 18 → T (version_there v copy b)) e
      (cube 4 2 18 (λ n. version_there (7 + n)) version_tested (v - 7) copy b (omega arith))

  pub word_places : WordPlaces v
  unfolding format_there version_there
  word_places =
      record {
        formats = λ copy b hc hb. is_format_lem copy b _ (both_right (ltb (get_or (format_places v copy) b 0) _) _ (format_there_lem copy b hc hb));
        versions = λ copy b h hc hb. is_version_lem copy b _ (both_right (ltb (get_or (version_places v copy) b 0) _) _ (version_there_lem copy b h hc hb));
        format_inside = λ copy b hc hb. ltb→lt _ _ (both_left (ltb (get_or (format_places v copy) b 0) (side v * side v)) (is_format copy b (module_on v (get_or (format_places v copy) b 0))) (format_there_lem copy b hc hb));
        version_inside = λ copy b h hc hb. ltb→lt _ _ (both_left (ltb (get_or (version_places v copy) b 0) (side v * side v)) (is_version copy b (module_on v (get_or (version_places v copy) b 0))) (version_there_lem copy b h hc hb));
      }

  -- each bit of each copy has a place of its own
  pub format_own : (copy b copy' b' : ℕ) → copy < 2 → b < 15 → copy' < 2 → b' < 15
      → get_or (format_places v copy) b 0 ≡ get_or (format_places v copy') b' 0 → (copy ≡ copy') × (b ≡ b')
  format_own copy b copy' b' hc hb hc' hb' e =
      let same : Format copy b ≡ Format copy' b' = sym (word_places.formats copy b hc hb) ∙ ap (module_on v) e ∙ word_places.formats copy' b' hc' hb' in (cc, cc)

  pub version_own : (copy b copy' b' : ℕ) → 7 ≤ v → copy < 2 → b < 18 → copy' < 2 → b' < 18
      → get_or (version_places v copy) b 0 ≡ get_or (version_places v copy') b' 0 → (copy ≡ copy') × (b ≡ b')
  version_own copy b copy' b' h hc hb hc' hb' e =
      let same : Version copy b ≡ Version copy' b' = sym (word_places.versions copy b h hc hb) ∙ ap (module_on v) e ∙ word_places.versions copy' b' h hc' hb' in (cc, cc)

  -- ---- the drawn symbol

  module _ (level mask : ℕ) (cs : List ℕ) where
    pub symbol_length : length (symbol v level mask cs) ≡ side v * side v
    unfolding symbol
    symbol_length = length_map_up_to _ (side v * side v)

    pub symbol_at : (p : ℕ) → p < side v * side v → get_or (symbol v level mask cs) p 0 ≡ module_at v level mask (fill (met v) (byte_bits cs)) p
    unfolding symbol
    symbol_at p h = get_d_map_up_to (module_at v level mask (fill (met v) (byte_bits cs))) (side v * side v) p 0 h

    -- "The writer never writes 2"
    pub symbol_le : AtMost 1 (symbol v level mask cs)
    unfolding module_at
    symbol_le p h =
        let inside : p < side v * side v = rw symbol_length at h in
        rw (symbol_at p inside)
        (low_colour v level mask (module_on v p) _ _ (low_module v (p / side v) (p % side v))
        (fill_le (met v) (byte_bits cs) (step (side v) (p / side v) (p % side v)) (at_any 1 (byte_bits cs) (byte_bits_le cs)))
        (flips_le mask (p / side v) (p % side v)))

-- ---- the theorems

pub placement : Placement
placement v least most = (placed_once v least most, word_places v least most)

-- bit k of the codewords, surplus included, stands at data module k, flipped by the mask
pub filled : Filled
unfolding module_at is_data
filled v least most level mask cs k h =
    let s = side v in
    let j = nth (met v) k in
    let p = walk s j in
    let bit : get_or (fill (met v) (byte_bits cs)) (step s (p / s) (p % s)) 0 ≡ get_or (byte_bits cs) k 0 =
    ap (λ (j : ℕ). get_or (fill (met v) (byte_bits cs)) j 0) (walk_back v least most j (nth_step v least most k h))
    ∙ fill_at (met v) (byte_bits cs) j (nth_passes (met v) k (rw (order_count v least most) at h))
    ∙ ap (λ (k : ℕ). get_or (byte_bits cs) k 0) (nth_back v least most k h) in
    rw (order_at v least most k h)
    (symbol_at v least most level mask cs p (walk_inside v least most j (nth_step v least most k h))
    ∙ ap (λ (m : Module). colour v level mask m (get_or (fill (met v) (byte_bits cs)) (step s (p / s) (p % s)) 0) (flips mask (p / s) (p % s))) (data_module (module_on v p) (nth_data v least most k h))
    ∙ ap (λ (b : ℕ). bit_xor b (flips mask (p / s) (p % s))) bit)

-- each listed place of a word has its bit's colour
pub format_drawn : FormatDrawn
unfolding module_at
format_drawn v least most level mask cs copy b hc hb =
    let p = get_or (format_places v copy) b 0 in
    symbol_at v least most level mask cs p ((word_places v least most).format_inside copy b hc hb)
    ∙ ap (λ (m : Module). colour v level mask m (get_or (fill (met v) (byte_bits cs)) (step (side v) (p / side v) (p % side v)) 0) (flips mask (p / side v) (p % side v))) ((word_places v least most).formats copy b hc hb)

pub version_drawn : VersionDrawn
unfolding module_at
version_drawn v least most level mask cs copy b h hc hb =
    let p = get_or (version_places v copy) b 0 in
    symbol_at v least most level mask cs p ((word_places v least most).version_inside copy b h hc hb)
    ∙ ap (λ (m : Module). colour v level mask m (get_or (fill (met v) (byte_bits cs)) (step (side v) (p / side v) (p % side v)) 0) (flips mask (p / side v) (p % side v))) ((word_places v least most).versions copy b h hc hb)
