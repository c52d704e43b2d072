-- A segment's head, read at a place of the codewords: which demand fails, or that the segment stands whole.
use mathlib.Core.Path.{◌≡◌, refl, ap, ◌∙◌}
use mathlib.Core.Bool.{Bool, true, false, cond, ◌||◌}
use mathlib.Core.List.{List}
use Prim.Native.Nat.{ℕ, ◌+◌, ◌-◌, ◌*◌, ◌<◌, ◌≤◌}
use native.Mathlib.Omega.{arith}
use lib.Dec.{leb, eqb}
use lib.ListN.{length, take, drop, length-drop}
use lib.Seq.{drop-drop}
use lib.Pow.{pow_mono}
use borrow.Author.Tests.{ltb-false, le-ltb, lt-ltb, le-leb, lt-leb}
use Rattle.basics.specs.Bits.{byte_bits, number}
use Rattle.basics.proofs.Bits.{length_byte_bits, byte_bits_le}
use Rattle.cursor.specs.Cursor.{field}
use Rattle.cursor.proofs.Bits.{at_most_drop, number_small}
use Rattle.tables.specs.Tables.{count_width}
use Rattle.stream.specs.Stream.{known, body_width}
use Rattle.parse.specs.Parse.{groups_in_range, Refusal, head_width, segment, ends, front}
use Rattle.parse.specs.Steps.{SegmentFits}
use Rattle.parse.proofs.Front.{WholeSegment}

-- the bits from a place on
pub left_bits : (codewords : List ℕ) (at : ℕ) → length (drop at (byte_bits codewords)) ≡ 8 * length codewords - at
left_bits codewords at = length-drop at (byte_bits codewords) ∙ ap (λ (n : ℕ). n - at) (length_byte_bits codewords)

-- a field of at most 16 bits
pub field_small : (codewords : List ℕ) (at n : ℕ) → n ≤ 16 → field codewords at n < 65536
unfolding field
field_small codewords at n h =
    omega (arith, number_small n (drop at (byte_bits codewords)) (at_most_drop 1 at (byte_bits codewords) (byte_bits_le codewords)), pow_mono {i = n} {j = 16} h)

pub width_small : (v mode : ℕ) → count_width v mode ≤ 16
unfolding count_width
width_small v mode = at (eqb mode 1) (eqb mode 2) (eqb mode 4) (leb v 9)
  where
    at : (a b c t : Bool) → cond a (cond t 10 12) (cond b (cond t 9 11) (cond c (cond t 8 16) 0)) ≤ 16
    at true b c true = omega arith
    at true b c false = omega arith
    at false true c true = omega arith
    at false true c false = omega arith
    at false false true true = omega arith
    at false false true false = omega arith
    at false false false t = omega arith

few : (a b : Bool) → (a || b) ≡ false → a ≡ false
few false b h = refl
few true b h = h

module _ (codewords : List ℕ) (at : ℕ) where
  pub few_left : 8 * length codewords - at < 4 → ends (drop at (byte_bits codewords)) ≡ true
  unfolding ends
  few_left h = rw (lt-ltb (length (drop at (byte_bits codewords))) 4 (rw (left_bits codewords at) h))

  pub four_left : 4 ≤ 8 * length codewords - at → ends (drop at (byte_bits codewords)) ≡ eqb (field codewords at 4) 0
  unfolding ends field
  four_left h = rw (le-ltb (length (drop at (byte_bits codewords))) 4 (rw (left_bits codewords at) h))

  module _ (g : ends (drop at (byte_bits codewords)) ≡ false) where
    pub going : at + 4 ≤ 8 * length codewords
    unfolding ends
    going =
        let h : 4 ≤ length (drop at (byte_bits codewords)) = ltb-false (length (drop at (byte_bits codewords))) 4 (few _ _ g) in
        omega (arith, left_bits codewords at)

    module _ (v mode : ℕ) (m : field codewords at 4 ≡ mode) where
      pub no_mode : known mode ≡ false → front v (drop at (byte_bits codewords)) ≡ Refusal 13
      unfolding front segment field
      no_mode k = rw (g, m, k)

      module _ (k : known mode ≡ true) where
        pub no_count : 8 * length codewords - (at + 4) < count_width v mode → front v (drop at (byte_bits codewords)) ≡ Refusal 14
        unfolding front segment field head_width
        no_count h = rw (g, m, k, lt-leb (4 + count_width v mode) (length (drop at (byte_bits codewords))) (omega (arith, left_bits codewords at, going)))

        module _ (w : count_width v mode ≤ 8 * length codewords - (at + 4)) (count : ℕ) (c : field codewords (at + 4) (count_width v mode) ≡ count) where
          the_count : number (take (count_width v mode) (drop 4 (drop at (byte_bits codewords)))) ≡ count
          unfolding field
          the_count = ap (λ (bs : List ℕ). number (take (count_width v mode) bs)) (drop-drop 4 at (byte_bits codewords)) ∙ c

          pub no_body : 8 * length codewords - (at + 4 + count_width v mode) < body_width mode count → front v (drop at (byte_bits codewords)) ≡ Refusal 14
          unfolding front segment field head_width
          no_body h =
              rw (
                g,
                m,
                the_count,
                k,
                le-leb (4 + count_width v mode) (length (drop at (byte_bits codewords))) (omega (arith, left_bits codewords at, going)),
                lt-leb (4 + count_width v mode + body_width mode count) (length (drop at (byte_bits codewords))) (omega (arith, left_bits codewords at, going)),
              )

          pub segment_fits : body_width mode count ≤ 8 * length codewords - (at + 4 + count_width v mode) → SegmentFits v mode count (drop at (byte_bits codewords))
          unfolding field head_width
          segment_fits h = record { modes = m; counts = the_count; knows = k; holds = omega (arith, left_bits codewords at, going) }

-- with its groups in range the segment is whole, else it is refused
module _ (v mode count : ℕ) (bs : List ℕ) (s : SegmentFits v mode count bs) where
  pub fits_whole : groups_in_range mode count (drop (head_width v mode) bs) ≡ true → WholeSegment v mode count bs
  fits_whole r = record { modes = s.modes; counts = s.counts; knows = s.knows; holds = s.holds; ranged = r }

  pub fits_broken : ends bs ≡ false → groups_in_range mode count (drop (head_width v mode) bs) ≡ false → front v bs ≡ Refusal 15
  unfolding front segment
  fits_broken g r =
      rw (
        g,
        s.modes,
        s.counts,
        s.knows,
        le-leb (head_width v mode) (length bs) (omega (arith, s.holds)),
        le-leb (head_width v mode + body_width mode count) (length bs) s.holds,
        r,
      )
