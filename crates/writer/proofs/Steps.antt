-- What the steps of a drawing hand on: the finished matrix in front of the output, and the place of the least score, mask by mask.
use mathlib.Core.Path.{◌≡◌, refl, ap, ◌∙◌}
use mathlib.Core.Bool.{cond}
use mathlib.Core.Logic.{by_cases}
use mathlib.Core.List.{List, ◌++◌, map}
use Prim.Native.Nat.{ℕ, suc, ◌+◌, ◌-◌, ◌*◌, ◌≤◌, ◌<◌}
use native.Mathlib.Nat.{mul-le-mul}
use native.Mathlib.Numerals.{add-one}
use native.Mathlib.Omega.{arith}
use native.Mathlib.Decide.{ℕ_discrete}
use borrow.Author.Tests.{lt-ltb, le-ltb, eq-eqb, ne_eqb}
use lib.Dec.{ltb}
use lib.ListN.{length, take, drop, length-append}
use lib.Seq.{take_at, drop_at}
use Rattle.basics.specs.Lists.{up_to, from}
use Rattle.basics.proofs.Lists.{length_map_up_to}
use Rattle.tables.specs.Tables.{side, Lawful}
use Rattle.modules.specs.Kinds.{laid, finished}
use Rattle.modules.proofs.Geometry.{symbol_le}
use Rattle.modules.proofs.Tints.{laid_length, laid_le, finished_laid}
use Rattle.penalty.specs.Penalty.{score, least_after, least_place}
use Rattle.penalty.proofs.Least.{least}
use Rattle.writer.specs.Writer.{chosen}
use Rattle.writer.specs.Answer.{Base, least_mask, mask_drawn}

-- a side, and the modules of a matrix of that side
pub side_le : (v level : ℕ) → Lawful v level → (21 ≤ side v) × (side v ≤ 57)
side_le v level l = omega (arith, l)

pub area_le : (v level : ℕ) → Lawful v level → side v * side v ≤ 3249
area_le v level l = mul-le-mul (side_le v level l).1 (side_le v level l).1

-- a list that is a front of n entries and a rest
pub record Stands (n : ℕ) (front rest whole : List ℕ) : Type 0 where
  pub long : n ≤ length whole
  pub before : take n whole ≡ front
  pub after : drop n whole ≡ rest

pub stands : (n : ℕ) (front rest whole : List ℕ) → whole ≡ front ++ rest → length front ≡ n → Stands n front rest whole
stands n front rest whole e l =
    record {
      long = rw (e, length-append) (omega arith);
      before = ap (take n) e ∙ take_at front rest n l;
      after = ap (drop n) e ∙ drop_at front rest n l;
    }

pub finished_length : (v level mask : ℕ) (base : List ℕ) → length (finished v level mask base) ≡ side v * side v
unfolding finished
finished_length v level mask base = length_map_up_to _ (side v * side v)

-- what the codewords lay
pub laid_base : (v level : ℕ) (cs : List ℕ) → Lawful v level → Base v level (laid v cs)
laid_base v level cs l =
    record {
      long = laid_length v cs;
      kinds = laid_le v cs;
      colours = λ mask. rw (finished_laid v level mask cs) (symbol_le v l.least l.most level mask cs);
    }

-- the masks chosen are one
pub mask_chosen : (v level mask : ℕ) (cs : List ℕ) → mask_drawn v level mask (laid v cs) ≡ chosen v level mask cs
unfolding mask_drawn least_mask chosen
mask_chosen v level mask cs = simp finished_laid

pub mask_small : (v level mask : ℕ) (base : List ℕ) → mask ≤ 8 → mask_drawn v level mask base < 8
unfolding mask_drawn least_mask
mask_small v level mask base h =
    by_cases (ℕ_discrete mask 8) (λ (e : mask ≡ 8). rw (eq-eqb mask 8 e) best) (λ n. rw (ne_eqb mask 8 n) (omega arith))
  where
    best : least_place (map (λ k. score (side v) (finished v level k base)) (up_to 8)) < 8
    best = rw length_map_up_to at (least (map (λ k. score (side v) (finished v level k base)) (up_to 8)) (rw length_map_up_to (omega arith))).inside

-- ---- the least score, mask by mask

module _ (f : ℕ → ℕ) where
  -- the masks from k on decide, where `least` at `place` leads so far
  leads : (least place k : ℕ) → k < 8 → least_after least place k (map f (from k (8 - k)))
      ≡ least_after (cond (ltb (f k) least) (f k) least) (cond (ltb (f k) least) k place) (k + 1) (map f (from (k + 1) (8 - (k + 1))))
  unfolding least_after from
  leads least place k h =
      let e : 8 - k ≡ suc (8 - (k + 1)) = omega arith in
      rw (e, add-one)
      (ap (λ (n : ℕ). least_after (cond (ltb (f k) least) (f k) least) (cond (ltb (f k) least) k place) n (map f (from (suc k) (8 - suc k)))) (add-one k))

  -- mask k is less, or it is not
  pub leads_less : (least place k x : ℕ) → k < 8 → x ≡ f k → x < least
      → least_after least place k (map f (from k (8 - k))) ≡ least_after x k (k + 1) (map f (from (k + 1) (8 - (k + 1))))
  leads_less least place k x h e l = leads least place k h ∙ rw (← e, lt-ltb x least l)

  pub leads_stays : (least place k x : ℕ) → k < 8 → x ≡ f k → least ≤ x
      → least_after least place k (map f (from k (8 - k))) ≡ least_after least place (k + 1) (map f (from (k + 1) (8 - (k + 1))))
  leads_stays least place k x h e l = leads least place k h ∙ rw (← e, le-ltb x least l)

  pub leads_first : least_place (map f (up_to 8)) ≡ least_after (f 0) 0 1 (map f (from 1 (8 - 1)))
  unfolding least_place up_to from
  leads_first = refl

  pub leads_last : (least place k : ℕ) → 8 ≤ k → least_after least place k (map f (from k (8 - k))) ≡ place
  unfolding least_after from
  leads_last least place k h =
      let e : 8 - k ≡ 0 = omega arith in
      rw e
