-- Kinds to colours: a row's flips as bits, the colours of all kinds as the bits of two words, row after row, and `finished_laid`:
-- what is finished over a laid matrix is the symbol.
use mathlib.Core.Path.{◌≡◌, refl, sym, ap, ap₂, ◌∙◌}
use mathlib.Core.Bool.{cond}
use mathlib.Core.List.{List, [], ◌∷◌, ◌++◌, map, append_assoc}
use Prim.Native.Nat.{ℕ, zero, suc, ◌+◌, ◌-◌, ◌*◌, ◌/◌, ◌%◌, ◌^◌, ◌≤◌, ◌<◌}
use native.Mathlib.Nat.{add-zero, add-suc, suc-mul, mul_comm, zero-div, zero-mod, pow-suc, div-div-eq-div-mul, mul-add-div_right, mul-add-mod_self_right, div-eq_of_lt, mod-eq_of_lt}
use native.Mathlib.Numerals.{add-one}
use native.Mathlib.Omega.{arith}
use lib.Dec.{T, eqb, eqb→eq}
use lib.ListN.{length, get_or, take, drop, length-append, length-drop}
use lib.Seq.{get_or-take, get_or-drop, drop-drop}
use borrow.Author.Tests.{le-leb, lt-leb}
use borrow.Rule.Slice.PartMut.{put_mid}
use Rattle.basics.specs.Bits.{bit_of, byte_bits, low_first}
use Rattle.basics.specs.Build.{build}
use Rattle.basics.specs.Lists.{up_to, AtMost}
use Rattle.basics.proofs.Bits.{byte_bits_le, bit_le}
use Rattle.basics.proofs.Build.{build_length}
use Rattle.basics.proofs.Lists.{length_map_up_to, get_d_map_up_to, map_up_to_same, build_up_to}
use Rattle.basics.proofs.Parts.{lent_front, length_part, the_part}
use Rattle.basics.proofs.Test.{all, cube}
use Rattle.tables.specs.Tables.{side}
use Rattle.words.specs.Words.{format_word, format_bits, version_word}
use Rattle.words.proofs.Bits.{format_bits_lt}
use Rattle.modules.specs.Modules.{Module, Finder, Timing, Alignment, Dark, Format, Version, Data, flips, colour, met, fill, step, module_at, symbol}
use Rattle.modules.specs.Geometry.{module_on}
use Rattle.modules.specs.Kinds.{kind, laid, tint, finished, row_flips, tinted}
use Rattle.modules.proofs.Open.{every}
use Rattle.modules.proofs.Kept.{fill_le}
use Rattle.modules.proofs.Geometry.{Low, low_module, flips_le, at_any}

-- ---- a row's flips

low_first_at : (bs : List ℕ) → ((k : ℕ) → get_or bs k 0 ≤ 1) → (j : ℕ) → bit_of (low_first bs) j ≡ get_or bs j 0
unfolding low_first
low_first_at [] h j = rw (zero-div (2 ^ j), zero-mod 2)
low_first_at (b ∷ bs) h zero = omega (arith, h 0)
low_first_at (b ∷ bs) h (suc j) =
    let halved : (b + 2 * low_first bs) / 2 ≡ low_first bs = omega (arith, h 0) in
    ap (λ (n : ℕ). (b + 2 * low_first bs) / n % 2) (pow-suc 2 j ∙ mul_comm (2 ^ j) 2)
    ∙ ap (λ (n : ℕ). n % 2) (sym (div-div-eq-div-mul (b + 2 * low_first bs) 2 (2 ^ j)) ∙ ap (λ (n : ℕ). n / 2 ^ j) halved)
    ∙ low_first_at bs (λ k. h (suc k)) j

pub row_flips_at : (mask i j : ℕ) → j < 60 → bit_of (row_flips mask i) j ≡ flips mask i j
unfolding row_flips
row_flips_at mask i j h =
    low_first_at (map (flips mask i) (up_to 60)) (at_any 1 (map (flips mask i) (up_to 60)) low) j ∙ get_d_map_up_to (flips mask i) 60 j 0 h
  where
    low : AtMost 1 (map (flips mask i) (up_to 60))
    low k l = rw (get_d_map_up_to (flips mask i) 60 k 0 (rw (length_map_up_to (flips mask i) 60) at l)) (flips_le mask i k)

-- ---- all kinds' colours as the bits of two words

tint_tested : T (all 32 (λ d. all 2 (λ flip. all 19 (λ x. eqb (bit_of (cond (eqb flip 0) (format_word d * 16 + 10) (format_word d * 16 + 6)) x) (tint (format_word d) flip x)))))
unfolding every tint
tint_tested = tt

pub tint_word : (d flip x : ℕ) → d < 32 → flip ≤ 1 → x ≤ 18
    → bit_of (cond (eqb flip 0) (format_word d * 16 + 10) (format_word d * 16 + 6)) x ≡ tint (format_word d) flip x
tint_word d flip x hd hf hx =
    eqb→eq _ _ (cube 32 2 19 (λ d flip x. eqb (bit_of (cond (eqb flip 0) (format_word d * 16 + 10) (format_word d * 16 + 6)) x) (tint (format_word d) flip x)) tint_tested d flip x hd (omega arith) (omega arith))

-- ---- row after row

-- the colour at place p
abbrev pub finish_at : (v level mask : ℕ) (base : List ℕ) (p : ℕ) → ℕ
finish_at v level mask base p = tint (format_word (format_bits level mask)) (flips mask (p / side v) (p % side v)) (get_or base p 0)

build_join : (f g : ℕ → ℕ) (a n : ℕ) → ((j : ℕ) → j < n → g j ≡ f (a + j)) → build f a ++ build g n ≡ build f (a + n)
unfolding build
build_join f g a zero h = rw add-zero (append_nil (build f a))
  where
    append_nil : (xs : List ℕ) → xs ++ [] ≡ xs
    append_nil [] = refl
    append_nil (x ∷ xs) = ap (λ (ys : List ℕ). x ∷ ys) (append_nil xs)
build_join f g a (suc n) h =
    rw add-suc (sym (append_assoc (build f a) (build g n) (g n ∷ [])) ∙ ap₂ (λ (xs : List ℕ) (y : ℕ). xs ++ (y ∷ [])) (build_join f g a n (λ j l. h j (omega arith))) (h n (omega arith)))

pub row_more : (f g : ℕ → ℕ) (out₀ out ys : List ℕ) (i s : ℕ) → out ≡ build f (i * s) ++ drop (i * s) out₀ → ys ≡ build g s
    → ((j : ℕ) → j < s → g j ≡ f (i * s + j)) → put_mid (i * s) (i * s + s - i * s) out ys ≡ build f ((i + 1) * s) ++ drop ((i + 1) * s) out₀
row_more f g out₀ out ys i s e r h =
    let count : i * s + s ≡ (i + 1) * s = sym (suc-mul i s) ∙ ap (λ (n : ℕ). n * s) (sym (add-one i)) in
    lent_front out (build f (i * s)) (drop (i * s) out₀) ys (i * s) s e (build_length f (i * s))
    ∙ ap₂ (λ (xs zs : List ℕ). xs ++ zs) (ap (λ (zs : List ℕ). build f (i * s) ++ zs) r ∙ build_join f g (i * s) s h) (drop-drop s (i * s) out₀)
    ∙ ap (λ (n : ℕ). build f n ++ drop n out₀) count

module _ (v level mask : ℕ) (levels : level < 4) (masks : mask < 8) (base : List ℕ) (low : AtMost 18 base) (s : ℕ) (e : s ≡ side v) (small : s ≤ 57) where
  -- row i, as the code works it out from a part of the matrix
  pub row_at : (i : ℕ) (word row j : ℕ) → i < s → word ≡ format_word (format_bits level mask) → row ≡ row_flips mask i → j < s
      → tinted (word * 16 + 10) (word * 16 + 6) row j (get_or (take (i * s + s - i * s) (drop (i * s) base)) j 0) ≡ finish_at v level mask base (i * s + j)
  unfolding tinted
  row_at i word row j hi hw hr hj =
      let some : 0 < s = omega arith in
      let rows : (i * s + j) / s ≡ i = mul-add-div_right some i j ∙ ap (λ (n : ℕ). i + n) (div-eq_of_lt hj) ∙ add-zero i in
      let columns : (i * s + j) % s ≡ j = mul-add-mod_self_right i s j ∙ mod-eq_of_lt hj in
      let x : get_or (take (i * s + s - i * s) (drop (i * s) base)) j 0 ≡ get_or base (i * s + j) 0 =
      ap (λ (xs : List ℕ). get_or xs j 0) (the_part base (i * s) s) ∙ get_or-take s (drop (i * s) base) j 0 hj ∙ get_or-drop (i * s) base j 0 in
      rw (x, hw, hr, row_flips_at mask i j (omega arith))
      (tint_word (format_bits level mask) (flips mask i j) (get_or base (i * s + j) 0) (format_bits_lt level mask levels masks) (flips_le mask i j) (at_any 18 base low (i * s + j))
      ∙ sym (rw (← e, rows, columns)))

pub finished_build : (v level mask : ℕ) (base : List ℕ) (n : ℕ) → n ≡ side v * side v → build (finish_at v level mask base) n ≡ finished v level mask base
unfolding finished
finished_build v level mask base n e = build_up_to (finish_at v level mask base) n ∙ rw e

-- ---- what is finished over a laid matrix is the symbol

tint_kind : (v level mask : ℕ) (m : Module) (bit flip : ℕ) → Low m → bit ≤ 1 → tint (format_word (format_bits level mask)) flip (kind v m bit) ≡ colour v level mask m bit flip
unfolding Low tint
tint_kind v level mask (Finder c) bit flip h hb = rw (le-leb c 1 h)
tint_kind v level mask (Timing c) bit flip h hb = rw (le-leb c 1 h)
tint_kind v level mask (Alignment c) bit flip h hb = rw (le-leb c 1 h)
tint_kind v level mask Dark bit flip h hb = refl
tint_kind v level mask (Format c b) bit flip h hb =
    rw (lt-leb (4 + b) 1 (omega arith), lt-leb (4 + b) 3 (omega arith)) (ap (bit_of (format_word (format_bits level mask))) (omega arith))
tint_kind v level mask (Version c b) bit flip h hb = rw (le-leb (bit_of (version_word v) b) 1 (bit_le (version_word v) b))
tint_kind v level mask Data bit flip h hb =
    let same : 2 + bit - 2 ≡ bit = omega arith in
    rw (lt-leb (2 + bit) 1 (omega arith), le-leb (2 + bit) 3 (omega arith), same)

pub laid_length : (v : ℕ) (cs : List ℕ) → length (laid v cs) ≡ side v * side v
unfolding laid
laid_length v cs = length_map_up_to _ (side v * side v)

kind_le : (v : ℕ) (m : Module) (bit : ℕ) → Low m → bit ≤ 1 → kind v m bit ≤ 18
unfolding Low
kind_le v (Finder c) bit h hb = omega arith
kind_le v (Timing c) bit h hb = omega arith
kind_le v (Alignment c) bit h hb = omega arith
kind_le v Dark bit h hb = omega arith
kind_le v (Format c b) bit h hb = omega arith
kind_le v (Version c b) bit h hb = omega (arith, bit_le (version_word v) b)
kind_le v Data bit h hb = omega arith

-- every kind is at most 18
pub laid_le : (v : ℕ) (cs : List ℕ) → AtMost 18 (laid v cs)
unfolding laid
laid_le v cs p l =
    let h : p < side v * side v = rw (laid_length v cs) at l in
    rw (get_d_map_up_to (λ p. kind v (module_on v p) (get_or (fill (met v) (byte_bits cs)) (step (side v) (p / side v) (p % side v)) 0)) (side v * side v) p 0 h)
    (kind_le v (module_on v p) _ (low_module v (p / side v) (p % side v))
    (fill_le (met v) (byte_bits cs) (step (side v) (p / side v) (p % side v)) (at_any 1 (byte_bits cs) (byte_bits_le cs))))

pub finished_laid : (v level mask : ℕ) (cs : List ℕ) → finished v level mask (laid v cs) ≡ symbol v level mask cs
unfolding finished symbol laid module_at
finished_laid v level mask cs =
    map_up_to_same _ _ (side v * side v)
    (λ p h.
    ap (tint (format_word (format_bits level mask)) (flips mask (p / side v) (p % side v))) (get_d_map_up_to _ (side v * side v) p 0 h)
    ∙ tint_kind v level mask (module_on v p) _ (flips mask (p / side v) (p % side v)) (low_module v (p / side v) (p % side v))
    (fill_le (met v) (byte_bits cs) (step (side v) (p / side v) (p % side v)) (at_any 1 (byte_bits cs) (byte_bits_le cs))))

-- ---- lengths of what is drawn row after row

pub front_length : (f : ℕ → ℕ) (n : ℕ) (out₀ out : List ℕ) → out ≡ build f n ++ drop n out₀ → n ≤ length out₀ → length out ≡ length out₀
front_length f n out₀ out e h =
    ap length e ∙ length-append (build f n) (drop n out₀) ∙ rw (build_length f n, length-drop n out₀) (omega arith)

pub part_le : (m : ℕ) (xs : List ℕ) (c n : ℕ) → c + n ≤ length xs → AtMost m xs → AtMost m (take (c + n - c) (drop c xs))
part_le m xs c n h low k l =
    let few : k < n = rw (length_part xs c n h) at l in
    rw (the_part xs c n, get_or-take n (drop c xs) k 0 few, get_or-drop c xs k 0) (at_any m xs low (c + k))
