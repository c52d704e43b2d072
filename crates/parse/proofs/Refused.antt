-- `stream_refused`: each of 13, 14 and 15 exactly where its words hold of the stream's first fault. At every place one of five holds: the end,
-- one of the three faults, a sound segment; each says what stands at the front, and so what `parse` does there.
use mathlib.Core.Path.{◌≡◌, refl, sym, ap, subst, ◌∙◌}
use mathlib.Core.Bool.{Bool, true, false, ◌||◌}
use mathlib.Core.Logic.{◌≢◌, ◌⊎◌, inl, inr, ⊎_elim}
use mathlib.Core.List.{List}
use Prim.Native.Nat.{ℕ, zero, suc, ◌+◌, ◌<◌, ◌≤◌}
use native.Mathlib.Nat.{not-suc-le-zero}
use native.Mathlib.Omega.{arith}
use lib.Dec.{ltb, eqb}
use lib.ListN.{length, drop, length-drop}
use lib.Seq.{drop-drop}
use borrow.Author.Tests.{ltb-false, eqb-false, le-ltb, ne_eqb, le-leb, lt-leb}
use Rattle.basics.specs.Bits.{byte_bits}
use Rattle.basics.specs.Lists.{AtMost}
use Rattle.basics.proofs.Bits.{byte_bits_le}
use Rattle.cursor.proofs.Bits.{order, at_most_drop}
use Rattle.stream.specs.Stream.{known, body_width}
use Rattle.parse.specs.Parse.{groups_in_range, Segment, Refusal, head_width, segment, ends, front, Parsed, Message, Fault, in_front, parse, message}
use Rattle.parse.specs.Faults.{read_mode, read_count, read_width, GroupOver, UnknownMode, RunsPast, BadGroup, SoundSegment, segment_place, FirstFault, StreamRefused}
use Rattle.parse.proofs.Front.{known_some, parse_segment, parse_refusal, parse_end}
use Rattle.parse.proofs.Ranges.{over_of, over_ranges}

-- ---- at a place: each case says what stands at the front

neither : (a b : Bool) → (a || b) ≡ false → (a ≡ false) × (b ≡ false)
neither false b h = (refl, h)
neither true b h = absurd (let z : ◌≡◌ {A = ℕ} 0 1 = cc in omega arith)

goes_on : (bs : List ℕ) → 4 ≤ length bs → read_mode bs ≢ 0 → ends bs ≡ false
unfolding ends
goes_on bs h s = rw (le-ltb (length bs) 4 h, ne_eqb (read_mode bs) 0 s)

known_goes : (bs : List ℕ) → 4 ≤ length bs → known (read_mode bs) ≡ true → ends bs ≡ false
known_goes bs h k = goes_on bs h (λ e. omega (arith, known_some (read_mode bs) k))

module _ (v : ℕ) (bs : List ℕ) where
  width_four : 4 ≤ read_width v bs
  unfolding read_width head_width
  width_four = omega arith

  four_bits : read_width v bs ≤ length bs → 4 ≤ length bs
  four_bits h = omega (arith, width_four)

  head_fits : read_width v bs ≤ length bs → head_width v (read_mode bs) ≤ length bs
  unfolding read_width
  head_fits h = omega arith

  front_unknown : UnknownMode bs → front v bs ≡ Refusal 13
  unfolding front segment
  front_unknown u = rw (goes_on bs u.four u.some, u.unknown)

  module _ (h : 4 ≤ length bs) (k : known (read_mode bs) ≡ true) where
    no_head : length bs < head_width v (read_mode bs) → front v bs ≡ Refusal 14
    unfolding front segment
    no_head l = rw (known_goes bs h k, k, lt-leb (head_width v (read_mode bs)) (length bs) l)

    no_body : head_width v (read_mode bs) ≤ length bs → length bs < read_width v bs → front v bs ≡ Refusal 14
    unfolding front segment read_width
    no_body f l =
        rw (known_goes bs h k, k, le-leb (head_width v (read_mode bs)) (length bs) f, lt-leb (head_width v (read_mode bs) + body_width (read_mode bs) (read_count v bs)) (length bs) l)

  front_past : RunsPast v bs → front v bs ≡ Refusal 14
  front_past p =
      ⊎_elim (no_head p.four p.knows)
      (λ l. ⊎_elim (no_head p.four p.knows) (λ f. no_body p.four p.knows f l) (order (length bs) (head_width v (read_mode bs))))
      p.past

  module _ (k : known (read_mode bs) ≡ true) (f : read_width v bs ≤ length bs) where
    broken_groups : groups_in_range (read_mode bs) (read_count v bs) (drop (head_width v (read_mode bs)) bs) ≡ false → front v bs ≡ Refusal 15
    unfolding front segment read_width
    broken_groups r =
        rw (
          known_goes bs (four_bits f) k,
          k,
          le-leb (head_width v (read_mode bs)) (length bs) (head_fits f),
          le-leb (head_width v (read_mode bs) + body_width (read_mode bs) (read_count v bs)) (length bs) f,
          r,
        )

    whole_groups : groups_in_range (read_mode bs) (read_count v bs) (drop (head_width v (read_mode bs)) bs) ≡ true → front v bs ≡ Segment (read_mode bs) (read_count v bs)
    unfolding front segment read_width
    whole_groups r =
        rw (
          known_goes bs (four_bits f) k,
          k,
          le-leb (head_width v (read_mode bs)) (length bs) (head_fits f),
          le-leb (head_width v (read_mode bs) + body_width (read_mode bs) (read_count v bs)) (length bs) f,
          r,
        )

  module _ (b : AtMost 1 bs) where
    body_le : AtMost 1 (drop (head_width v (read_mode bs)) bs)
    body_le = at_most_drop 1 (head_width v (read_mode bs)) bs b

    front_group : BadGroup v bs → front v bs ≡ Refusal 15
    front_group g = broken_groups g.knows g.holds (over_ranges (read_mode bs) (read_count v bs) _ g.knows body_le g.over)

    groups_over : known (read_mode bs) ≡ true → groups_in_range (read_mode bs) (read_count v bs) (drop (head_width v (read_mode bs)) bs) ≡ false
        → GroupOver (read_mode bs) (read_count v bs) (drop (head_width v (read_mode bs)) bs)
    groups_over k r = over_of (read_count v bs) (read_mode bs) (read_count v bs) _ k body_le (omega arith) r

    front_sound : SoundSegment v bs → front v bs ≡ Segment (read_mode bs) (read_count v bs)
    front_sound s = by_test (groups_in_range (read_mode bs) (read_count v bs) (drop (head_width v (read_mode bs)) bs)) refl
      where
        by_test : (t : Bool) → groups_in_range (read_mode bs) (read_count v bs) (drop (head_width v (read_mode bs)) bs) ≡ t → front v bs ≡ Segment (read_mode bs) (read_count v bs)
        by_test true e = whole_groups s.knows s.holds e
        by_test false e = absurd (s.ranged (groups_over s.knows e))

-- .. and one of them holds
data Case (v : ℕ) (bs : List ℕ) : Type 0 where
  ended : ends bs ≡ true → Case v bs
  unknown : UnknownMode bs → Case v bs
  past : RunsPast v bs → Case v bs
  group : BadGroup v bs → Case v bs
  sound : SoundSegment v bs → Case v bs

module _ (v : ℕ) (bs : List ℕ) (b : AtMost 1 bs) where
  by_groups : known (read_mode bs) ≡ true → read_width v bs ≤ length bs
      → (t : Bool) → groups_in_range (read_mode bs) (read_count v bs) (drop (head_width v (read_mode bs)) bs) ≡ t → Case v bs
  by_groups k f false e = group (record { knows = k; holds = f; over = groups_over v bs b k e })
  by_groups k f true e =
      sound (record {
        knows = k;
        holds = f;
        ranged = λ o. let z : ◌≡◌ {A = ℕ} 0 1 = cc (e, over_ranges (read_mode bs) (read_count v bs) _ k (body_le v bs b) o) in omega arith;
      })

  by_mode : 4 ≤ length bs → read_mode bs ≢ 0 → (t : Bool) → known (read_mode bs) ≡ t → Case v bs
  by_mode h s false e = unknown (record { four = h; some = s; unknown = e })
  by_mode h s true e =
      ⊎_elim (λ l. past (record { four = h; knows = e; past = inr l }))
      (λ f. by_groups e f (groups_in_range (read_mode bs) (read_count v bs) (drop (head_width v (read_mode bs)) bs)) refl)
      (order (length bs) (read_width v bs))

  by_end : (t : Bool) → ends bs ≡ t → Case v bs
  unfolding ends
  by_end true e = ended e
  by_end false e =
      let n = neither (ltb (length bs) 4) (eqb (read_mode bs) 0) e in
      by_mode (ltb-false (length bs) 4 n.0) (eqb-false (read_mode bs) 0 n.1) (known (read_mode bs)) refl

  case_of : Case v bs
  case_of = by_end (ends bs) refl

-- ---- the first fault: here, or behind a sound segment

module _ (v : ℕ) (bs : List ℕ) where
  abbrev behind : List ℕ
  behind = drop (read_width v bs) bs

  place_next : (k : ℕ) → segment_place v bs (suc k) ≡ read_width v bs + segment_place v behind k
  unfolding segment_place
  place_next zero = omega arith
  place_next (suc k) =
      ap (λ (n : ℕ). n + read_width v (drop n bs)) (place_next k)
      ∙ ap (λ (l : List ℕ). read_width v bs + segment_place v behind k + read_width v l) (sym (drop-drop (segment_place v behind k) (read_width v bs) bs))
      ∙ omega arith

  bits_next : (k : ℕ) → drop (segment_place v bs (suc k)) bs ≡ drop (segment_place v behind k) behind
  bits_next k = ap (λ (n : ℕ). drop n bs) (place_next k) ∙ sym (drop-drop (segment_place v behind k) (read_width v bs) bs)

  module _ (F : List ℕ → Type 0) where
    first_here : F bs → FirstFault v F bs
    unfolding segment_place
    first_here f = record { index = 0; sound = λ k h. absurd (not-suc-le-zero h); fault = f }

    first_behind : SoundSegment v bs → FirstFault v F behind → FirstFault v F bs
    unfolding segment_place
    first_behind s f = record { index = suc f.index; sound = sounds; fault = subst F (sym (bits_next f.index)) f.fault }
      where
        sounds : (k : ℕ) → k < suc f.index → SoundSegment v (drop (segment_place v bs k) bs)
        sounds zero h = s
        sounds (suc k) h = subst (SoundSegment v) (sym (bits_next k)) (f.sound k (omega arith))

    -- .. and back
    first_cases : FirstFault v F bs → F bs ⊎ (SoundSegment v bs × FirstFault v F behind)
    unfolding segment_place
    first_cases f = at f.index f.sound f.fault
      where
        at : (n : ℕ) → ((k : ℕ) → k < n → SoundSegment v (drop (segment_place v bs k) bs)) → F (drop (segment_place v bs n) bs)
            → F bs ⊎ (SoundSegment v bs × FirstFault v F behind)
        at zero s g = inl g
        at (suc n) s g =
            inr (
              s 0 (omega arith),
              record {
                index = n;
                sound = λ k h. subst (SoundSegment v) (bits_next k) (s (suc k) (omega arith));
                fault = subst F (bits_next n) g;
              },
            )

first_other : (v : ℕ) (F G : List ℕ → Type 0) (bs : List ℕ) → ((xs : List ℕ) → F xs → G xs) → FirstFault v F bs → FirstFault v G bs
first_other v F G bs h f = record { index = f.index; sound = f.sound; fault = h _ f.fault }

-- ---- the whole stream

-- each number's words
abbrev Broken : (v n : ℕ) → List ℕ → Type 0
Broken v n bs = ((n ≡ 13) × UnknownMode bs) ⊎ (((n ≡ 14) × RunsPast v bs) ⊎ ((n ≡ 15) × BadGroup v bs))

broken_front : (v n : ℕ) (bs : List ℕ) → AtMost 1 bs → Broken v n bs → front v bs ≡ Refusal n
broken_front v n bs b =
    ⊎_elim (λ w. front_unknown v bs w.1 ∙ ap Refusal (sym w.0))
    (⊎_elim (λ w. front_past v bs w.1 ∙ ap Refusal (sym w.0)) (λ w. front_group v bs b w.1 ∙ ap Refusal (sym w.0)))

broken_four : (v n : ℕ) (bs : List ℕ) → Broken v n bs → 4 ≤ length bs
broken_four v n bs = ⊎_elim (λ w. w.1.four) (⊎_elim (λ w. w.1.four) (λ w. four_bits v bs w.1.holds))

-- what follows a sound segment
module _ (fuel v : ℕ) (bs : List ℕ) (b : AtMost 1 bs) (s : SoundSegment v bs) where
  parse_sound : (chars : List ℕ) × (parse (suc fuel) v bs ≡ in_front (read_mode bs) (read_count v bs) chars (parse fuel v (behind v bs)))
  unfolding read_width
  parse_sound = (_, parse_segment fuel v bs (read_mode bs) (read_count v bs) (front_sound v bs b s))

  fault_behind : (n : ℕ) → parse (suc fuel) v bs ≡ Fault n → parse fuel v (behind v bs) ≡ Fault n
  fault_behind n e = at (parse fuel v (behind v bs)) (sym parse_sound.1 ∙ e)
    where
      at : (rest : Parsed) → in_front (read_mode bs) (read_count v bs) parse_sound.0 rest ≡ Fault n → rest ≡ Fault n
      at (Message p l) g = absurd (let z : ◌≡◌ {A = ℕ} 0 1 = cc in omega arith)
      at (Fault k) g = g

  behind_fault : (n : ℕ) → parse fuel v (behind v bs) ≡ Fault n → parse (suc fuel) v bs ≡ Fault n
  behind_fault n e = parse_sound.1 ∙ ap (in_front (read_mode bs) (read_count v bs) parse_sound.0) e

no_fault : (p l : List ℕ) (n : ℕ) → Message p l ≡ Fault n → ⊥
no_fault p l n e = let z : ◌≡◌ {A = ℕ} 0 1 = cc in omega arith

same_fault : (k n : ℕ) → Fault k ≡ Fault n → n ≡ k
same_fault k n e = cc

-- one place, whatever holds there
fault_here : (fuel v n : ℕ) (bs : List ℕ) → AtMost 1 bs → (parse fuel v (behind v bs) ≡ Fault n → FirstFault v (Broken v n) (behind v bs))
    → Case v bs → parse (suc fuel) v bs ≡ Fault n → FirstFault v (Broken v n) bs
unfolding front
fault_here fuel v n bs b later (ended e) p = absurd (no_fault _ _ n (sym (parse_end (suc fuel) v bs (rw e)) ∙ p))
fault_here fuel v n bs b later (unknown w) p =
    first_here v bs (Broken v n) (inl (same_fault 13 n (sym (parse_refusal fuel v bs 13 (front_unknown v bs w)) ∙ p), w))
fault_here fuel v n bs b later (past w) p =
    first_here v bs (Broken v n) (inr (inl (same_fault 14 n (sym (parse_refusal fuel v bs 14 (front_past v bs w)) ∙ p), w)))
fault_here fuel v n bs b later (group w) p =
    first_here v bs (Broken v n) (inr (inr (same_fault 15 n (sym (parse_refusal fuel v bs 15 (front_group v bs b w)) ∙ p), w)))
fault_here fuel v n bs b later (sound s) p = first_behind v bs (Broken v n) s (later (fault_behind fuel v bs b s n p))

fault_first : (fuel v n : ℕ) (bs : List ℕ) → AtMost 1 bs → parse fuel v bs ≡ Fault n → FirstFault v (Broken v n) bs
unfolding parse
fault_first zero v n bs b p = absurd (no_fault _ _ n p)
fault_first (suc fuel) v n bs b p =
    fault_here fuel v n bs b (fault_first fuel v n (behind v bs) (at_most_drop 1 (read_width v bs) bs b)) (case_of v bs b) p

first_fault : (fuel v n : ℕ) (bs : List ℕ) → AtMost 1 bs → length bs ≤ fuel → FirstFault v (Broken v n) bs → parse fuel v bs ≡ Fault n
first_fault zero v n bs b h f =
    absurd (⊎_elim (λ w. omega (arith, broken_four v n bs w)) (λ s. omega (arith, four_bits v bs s.0.holds)) (first_cases v bs (Broken v n) f))
first_fault (suc fuel) v n bs b h f =
    ⊎_elim (λ w. parse_refusal fuel v bs n (broken_front v n bs b w))
    (λ s. behind_fault fuel v bs b s.0 n
    (first_fault fuel v n (behind v bs) (at_most_drop 1 (read_width v bs) bs b) (shorter s) s.1))
    (first_cases v bs (Broken v n) f)
  where
    shorter : SoundSegment v bs × FirstFault v (Broken v n) (behind v bs) → length (behind v bs) ≤ fuel
    shorter s = rw (length-drop (read_width v bs) bs) (omega (arith, width_four v bs))

pub stream_refused : (v : ℕ) (codewords : List ℕ) → StreamRefused v codewords
unfolding message
stream_refused v codewords = record {
  thirteen = (
    λ e. first_other v _ _ bs (λ xs. ⊎_elim (λ w. w.1) (⊎_elim (λ w. absurd (omega (arith, w.0))) (λ w. absurd (omega (arith, w.0))))) (to 13 e),
    λ f. from 13 (first_other v _ _ bs (λ xs w. inl (refl, w)) f),
  );
  fourteen = (
    λ e. first_other v _ _ bs (λ xs. ⊎_elim (λ w. absurd (omega (arith, w.0))) (⊎_elim (λ w. w.1) (λ w. absurd (omega (arith, w.0))))) (to 14 e),
    λ f. from 14 (first_other v _ _ bs (λ xs w. inr (inl (refl, w))) f),
  );
  fifteen = (
    λ e. first_other v _ _ bs (λ xs. ⊎_elim (λ w. absurd (omega (arith, w.0))) (⊎_elim (λ w. absurd (omega (arith, w.0))) (λ w. w.1))) (to 15 e),
    λ f. from 15 (first_other v _ _ bs (λ xs w. inr (inr (refl, w))) f),
  );
  others = λ n e. ⊎_elim (λ w. inl w.0) (⊎_elim (λ w. inr (inl w.0)) (λ w. inr (inr w.0))) (to n e).fault;
}
  where
    bs : List ℕ
    bs = byte_bits codewords

    to : (n : ℕ) → parse (length bs) v bs ≡ Fault n → FirstFault v (Broken v n) bs
    to n = fault_first (length bs) v n bs (byte_bits_le codewords)

    from : (n : ℕ) → FirstFault v (Broken v n) bs → parse (length bs) v bs ≡ Fault n
    from n = first_fault (length bs) v n bs (byte_bits_le codewords) (omega arith)
