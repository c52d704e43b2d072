-- The closed form `sent_place` is the sent order: each codeword of a block stands where it says, and each place is that of one codeword.
-- Both are computed for all forty sizes, by a look at each codeword's place and by one pass along the order.
use mathlib.Core.Path.{◌≡◌, sym, ap, ◌∙◌}
use mathlib.Core.Bool.{Bool, true, false}
use mathlib.Core.List.{List, [], ◌∷◌}
use Prim.Native.Nat.{ℕ, zero, suc, ◌+◌, ◌<◌}
use native.Mathlib.Nat.{not-suc-le-zero, le_of_suc-le-suc, add-zero, zero-add, add-suc, suc-add}
use native.Mathlib.Omega.{arith}
use lib.Dec.{T, eqb, ltb, eqb→eq, ltb→lt}
use lib.ListN.{length, get_or}
use Rattle.basics.specs.Lists.{from, up_to, keep, joined}
use Rattle.basics.proofs.Test.{both, all, at, grid}
use Rattle.tables.specs.Tables.{totals, check_rows, block_rows, total, check_count, block_count, data_count, short_length, short_blocks, block_data, block_length, Lawful}
use Rattle.blocks.specs.Blocks.{Cell, sent_data, sent_checks, sent_order, place_by, sent_place}
use Rattle.blocks.specs.Theorems.{Sending}
pub use Rattle.blocks.specs.Theorems.{Stood, SentOnce}

-- both tests passed
two : (a b : Bool) → T (both a b) → T a × T b
two true b t = (tt, t)
two false b t = absurd t

none : Cell
none = record { of = 0; at = 0 }

-- ---- each codeword stands at its place

is : ℕ → ℕ → Cell → Bool
is b p c = both (eqb c.of b) (eqb c.at p)

is_cell : (b p : ℕ) (c : Cell) → T (is b p c) → c ≡ record { of = b; at = p }
unfolding is
is_cell b p c t =
    let e = two (eqb c.of b) (eqb c.at p) t in
    ap (λ (x : ℕ). record { of = x; at = c.at }) (eqb→eq c.of b e.0) ∙ ap (λ (y : ℕ). record { of = b; at = y }) (eqb→eq c.at p e.1)

placed : (v level : ℕ) → List Cell → (b p : ℕ) → Bool
placed v level order b p = both (ltb (sent_place v level b p) (total v)) (is b p (get_or order (sent_place v level b p) none))

all_placed : (v level : ℕ) → List Cell → Bool
all_placed v level order = all (block_count v level) (λ b. all (block_length v level b) (placed v level order b))

tested_placed : T (all 11 (λ v. all 4 (λ level. all_placed v level (sent_order v level))))
unfolding from up_to keep joined totals check_rows block_rows total check_count block_count data_count short_length short_blocks block_data block_length sent_data sent_checks sent_order place_by sent_place none is placed all_placed
tested_placed = tt

-- ---- each place is that of a codeword

-- a cell of this size, whose place is q
stood : (v level q : ℕ) → Cell → Bool
stood v level q c =
    both (ltb c.of (block_count v level)) (both (ltb c.at (block_length v level c.of)) (eqb (sent_place v level c.of c.at) q))

-- the order from place q on, up to the last place
passed : (v level q : ℕ) → List Cell → Bool
passed v level q [] = eqb q (total v)
passed v level q (c ∷ cs) = both (stood v level q c) (passed v level (suc q) cs)

tested_passed : T (all 11 (λ v. all 4 (λ level. passed v level 0 (sent_order v level))))
unfolding from up_to keep joined totals check_rows block_rows total check_count block_count data_count short_length short_blocks block_data block_length sent_data sent_checks sent_order place_by sent_place stood passed
tested_passed = tt

stood_at : (v level q : ℕ) (c : Cell) → T (stood v level q c) → Stood v level q c
unfolding stood
stood_at v level q c t =
    let e = two (ltb c.of (block_count v level)) _ t in
    let i = two (ltb c.at (block_length v level c.of)) _ e.1 in
    record { block = ltb→lt _ _ e.0; inside = ltb→lt _ _ i.0; place = eqb→eq _ _ i.1 }

passed_long : (v level q : ℕ) (cs : List Cell) → T (passed v level q cs) → q + length cs ≡ total v
unfolding passed
passed_long v level q [] t = omega (arith, eqb→eq q (total v) t)
passed_long v level q (c ∷ cs) t = omega (arith, passed_long v level (suc q) cs (two (stood v level q c) (passed v level (suc q) cs) t).1)

passed_at : (v level q : ℕ) (cs : List Cell) → T (passed v level q cs) → (k : ℕ) → k < length cs → Stood v level (q + k) (get_or cs k none)
unfolding passed
passed_at v level q [] t k h = absurd (not-suc-le-zero h)
passed_at v level q (c ∷ cs) t zero h = rw add-zero (stood_at v level q c (two (stood v level q c) (passed v level (suc q) cs) t).0)
passed_at v level q (c ∷ cs) t (suc k) h =
    rw (add-suc, ← suc-add) (passed_at v level (suc q) cs (two (stood v level q c) (passed v level (suc q) cs) t).1 k (le_of_suc-le-suc h))

-- ---- the theorem

module _ (v level : ℕ) (lawful : Lawful v level) where
  here : T (passed v level 0 (sent_order v level))
  here = grid 11 4 (λ v level. passed v level 0 (sent_order v level)) tested_passed v level (omega arith) (omega arith)

  there : (b p : ℕ) → b < block_count v level → p < block_length v level b → T (placed v level (sent_order v level) b p)
  unfolding all_placed
  there b p hb hp =
      at (block_length v level b) (placed v level (sent_order v level) b)
      (at (block_count v level) (λ b. all (block_length v level b) (placed v level (sent_order v level) b))
      (grid 11 4 (λ v level. all_placed v level (sent_order v level)) tested_placed v level (omega arith) (omega arith)) b hb) p hp

pub sent_once : Sending
unfolding placed none
sent_once v level lawful =
    let l : length (sent_order v level) ≡ total v = omega (arith, passed_long v level 0 (sent_order v level) (here v level lawful)) in
    record {
      long = l;
      inside = λ b p hb hp. ltb→lt _ _ (two (ltb (sent_place v level b p) (total v)) _ (there v level lawful b p hb hp)).0;
      at = λ b p hb hp. is_cell b p _ (two (ltb (sent_place v level b p) (total v)) _ (there v level lawful b p hb hp)).1;
      back = λ q h. rw zero-add at (passed_at v level 0 (sent_order v level) (here v level lawful) q (rw l h));
    }

-- no two codewords share a place
pub place_only : (v level : ℕ) → Lawful v level → (b p c q : ℕ) → b < block_count v level → p < block_length v level b → c < block_count v level → q < block_length v level c
    → sent_place v level b p ≡ sent_place v level c q → (b ≡ c) × (p ≡ q)
place_only v level lawful b p c q hb hp hc hq e =
    let once = sent_once v level lawful in
    let same : ◌≡◌ {A = Cell} (record { of = b; at = p }) (record { of = c; at = q }) =
    sym (once.at b p hb hp) ∙ ap (λ (x : ℕ). get_or (sent_order v level) x (record { of = 0; at = 0 })) e ∙ once.at c q hc hq in
    (ap (λ (x : Cell). x.of) same, ap (λ (x : Cell). x.at) same)
