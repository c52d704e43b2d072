-- What `front` answers under which demands, and what `parse` does with each answer.
use mathlib.Core.Path.{◌≡◌, refl}
use mathlib.Core.Bool.{Bool, true, false, cond}
use mathlib.Core.List.{List, []}
use Prim.Native.Nat.{ℕ, zero, suc, ◌+◌, ◌<◌, ◌≤◌}
use native.Mathlib.Omega.{arith}
use lib.Dec.{leb}
use lib.ListN.{length, take, drop}
use borrow.Author.Tests.{leb-true, le-ltb, le-leb, ne_eqb}
use Rattle.basics.specs.Bits.{number}
use Rattle.tables.specs.Tables.{count_width}
use Rattle.stream.specs.Stream.{known, body_width}
use Rattle.parse.specs.Parse.{Front, End, Segment, Refusal, demand, characters, groups_in_range, head_width, segment, ends, front, Message, Fault, in_front, parse}
use Rattle.parse.proofs.Body.{by_mode}

-- no known mode is 0
pub known_some : (mode : ℕ) → known mode ≡ true → 0 < mode
known_some mode k = by_mode mode k (λ e. omega arith) (λ e. omega arith) (λ e. omega arith)

-- every known mode has four bits
pub known_small : (mode : ℕ) → known mode ≡ true → mode < 16
known_small mode k = by_mode mode k (λ e. omega arith) (λ e. omega arith) (λ e. omega arith)

-- a whole segment at the front of bits
pub record WholeSegment (v mode count : ℕ) (bs : List ℕ) : Type 0 where
  pub modes : number (take 4 bs) ≡ mode
  pub counts : number (take (count_width v mode) (drop 4 bs)) ≡ count
  pub knows : known mode ≡ true
  pub holds : head_width v mode + body_width mode count ≤ length bs
  pub ranged : groups_in_range mode count (drop (head_width v mode) bs) ≡ true

module _ (v mode count : ℕ) (bs : List ℕ) where
  pub whole_segment : WholeSegment v mode count bs → front v bs ≡ Segment mode count
  unfolding front ends segment head_width
  whole_segment w =
      rw (
        w.modes,
        w.counts,
        le-ltb (length bs) 4 (omega arith),
        ne_eqb mode 0 (λ e. omega (arith, known_some mode w.knows)),
        w.knows,
        le-leb (4 + count_width v mode) (length bs) (omega arith),
        le-leb (4 + count_width v mode + body_width mode count) (length bs) w.holds,
        w.ranged,
      )

-- ---- and back: what an answer tells

demanded : (k h b r : Bool) (mode count : ℕ) {mode' count' : ℕ}
    → demand k 13 (demand h 14 (demand b 14 (demand r 15 (Segment mode count)))) ≡ Segment mode' count'
    → (k ≡ true) × (b ≡ true) × (r ≡ true) × (mode ≡ mode') × (count ≡ count')
demanded false h b r mode count e = absurd (let z : ◌≡◌ {A = ℕ} 0 1 = cc in omega arith)
demanded true false b r mode count e = absurd (let z : ◌≡◌ {A = ℕ} 0 1 = cc in omega arith)
demanded true true false r mode count e = absurd (let z : ◌≡◌ {A = ℕ} 0 1 = cc in omega arith)
demanded true true true false mode count e = absurd (let z : ◌≡◌ {A = ℕ} 0 1 = cc in omega arith)
demanded true true true true mode count e = (refl, refl, refl, cc, cc)

segment_front : (t : Bool) (f : Front) {mode count : ℕ} → cond t End f ≡ Segment mode count → f ≡ Segment mode count
segment_front true f e = absurd (let z : ◌≡◌ {A = ℕ} 0 1 = cc in omega arith)
segment_front false f e = e

module _ (v mode count : ℕ) (bs : List ℕ) where
  pub segment_whole : front v bs ≡ Segment mode count → WholeSegment v mode count bs
  unfolding front ends segment head_width
  segment_whole e =
      let m : ℕ = number (take 4 bs) in
      let n : ℕ = number (take (count_width v m) (drop 4 bs)) in
      let d =
      demanded (known m) (leb (head_width v m) (length bs)) (leb (head_width v m + body_width m n) (length bs)) (groups_in_range m n (drop (head_width v m) bs)) m n
      (segment_front (ends bs) (segment v m n bs) e) in
      record {
        modes = d.3;
        counts = rw d.3 at d.4;
        knows = rw d.3 at d.0;
        holds = leb-true _ _ (rw (d.4, d.3) at d.1);
        ranged = rw (d.4, d.3) at d.2;
      }

-- ---- what follows

module _ (fuel v : ℕ) (bs : List ℕ) where
  pub parse_segment : (mode count : ℕ) → front v bs ≡ Segment mode count
      → parse (suc fuel) v bs ≡ in_front mode count (characters mode count (drop (head_width v mode) bs)) (parse fuel v (drop (head_width v mode + body_width mode count) bs))
  unfolding parse
  parse_segment mode count e = rw (e, parse)

  pub parse_refusal : (n : ℕ) → front v bs ≡ Refusal n → parse (suc fuel) v bs ≡ Fault n
  unfolding parse
  parse_refusal n e = rw (e, parse)

pub parse_end : (fuel v : ℕ) (bs : List ℕ) → front v bs ≡ End → parse fuel v bs ≡ Message [] []
unfolding parse
parse_end zero v bs e = refl
parse_end (suc fuel) v bs e = rw (e, parse)
