-- All segments, one after the other: what stands in the buffers, followed by what the rest of the stream holds, is the message.
-- A segment takes 12 bits or more, so the number of bits is fuel enough.
use mathlib.Core.Path.{◌≡◌, refl, sym, ap, ap₂, ◌∙◌}
use mathlib.Core.Bool.{Bool, true, false, cond}
use mathlib.Core.List.{List, [], ◌∷◌, ◌++◌, append_assoc, append-nil}
use Rattle.std.specs.Prelude.{Ok}
use Prim.Native.Nat.{ℕ, suc, ◌+◌, ◌-◌, ◌*◌, ◌<◌, ◌≤◌}
use native.Mathlib.Omega.{arith}
use lib.Dec.{leb}
use lib.ListN.{length, take, drop}
use lib.Seq.{drop-drop}
use Rattle.basics.specs.Bits.{byte_bits}
use Rattle.basics.proofs.Bits.{length_byte_bits}
use Rattle.stream.specs.Stream.{body_width}
use Rattle.parse.specs.declared.Progress.{Progress}
use Rattle.parse.specs.Parse.{characters, End, Refusal, head_width, ends, front, Parsed, Message, Fault, in_front, parse, most_data, message}
use Rattle.parse.specs.Steps.{Load, Stepped, FillReads}
use Rattle.parse.proofs.Front.{segment_whole, parse_segment, parse_refusal, parse_end}
use Rattle.parse.proofs.Heads.{left_bits, going}
use Rattle.parse.proofs.Load.{load_none, load_more, load_enough}

-- characters and pairs in front of what follows them
abbrev pub joined : (chars pairs : List ℕ) → Parsed → Parsed
joined chars pairs (Message payload list) = Message (chars ++ payload) (pairs ++ list)
joined chars pairs (Fault n) = Fault n

joined_more : (chars pairs cs : List ℕ) (mode count : ℕ) (rest : Parsed)
    → joined chars pairs (in_front mode count cs rest) ≡ joined (chars ++ cs) (pairs ++ (mode ∷ count ∷ [])) rest
joined_more chars pairs cs mode count (Fault n) = refl
joined_more chars pairs cs mode count (Message payload list) =
    ap₂ Message (sym (append_assoc chars cs payload)) (sym (append_assoc pairs (mode ∷ count ∷ []) list))

joined_none : (rest : Parsed) → rest ≡ joined [] [] rest
joined_none (Message payload list) = refl
joined_none (Fault n) = refl

pub record Filling (codewords : List ℕ) (v : ℕ) (payload₀ list₀ payload list : List ℕ) (p : Progress) : Type 0 where
  pub long : length payload ≡ length payload₀
  pub longs : length list ≡ length list₀
  pub load : Load (leb v 9) p.cursor.at p.used p.segments
  pub inside : p.cursor.at ≤ 8 * length codewords
  pub reads : message v codewords ≡ joined (take p.used payload) (take (2 * p.segments) list) (parse (8 * length codewords - p.segments) v (drop p.cursor.at (byte_bits codewords)))

module _ (codewords : List ℕ) (v : ℕ) (payload₀ list₀ : List ℕ) where
  pub filling_none : Filling codewords v payload₀ list₀ payload₀ list₀ (record { cursor = record { at = 0 }; used = 0; segments = 0 })
  unfolding message
  filling_none =
      let e : length (byte_bits codewords) ≡ 8 * length codewords - 0 = omega (arith, length_byte_bits codewords) in
      record {
        long = refl;
        longs = refl;
        load = load_none (leb v 9);
        inside = omega arith;
        reads =
            ap (λ (n : ℕ). parse n v (byte_bits codewords)) e
            ∙ joined_none (parse (8 * length codewords - 0) v (byte_bits codewords));
      }

  module _ (payload list : List ℕ) (p : Progress) (f : Filling codewords v payload₀ list₀ payload list p) where
    -- the fuel is not spent
    heads_few : (t : Bool) → cond t 12 15 * p.segments ≤ p.cursor.at → p.segments ≤ p.cursor.at
    heads_few true h = omega arith
    heads_few false h = omega arith

    fuel : ends (drop p.cursor.at (byte_bits codewords)) ≡ false → 8 * length codewords - p.segments ≡ suc (8 * length codewords - (p.segments + 1))
    fuel g = omega (arith, going codewords p.cursor.at g, heads_few (leb v 9) f.load.heads)

    pub filling_refused : (n : ℕ) → ends (drop p.cursor.at (byte_bits codewords)) ≡ false → front v (drop p.cursor.at (byte_bits codewords)) ≡ Refusal n → message v codewords ≡ Fault n
    filling_refused n g e =
        f.reads
        ∙ ap (joined (take p.used payload) (take (2 * p.segments) list))
        (ap (λ (k : ℕ). parse k v (drop p.cursor.at (byte_bits codewords))) (fuel g) ∙ parse_refusal (8 * length codewords - (p.segments + 1)) v (drop p.cursor.at (byte_bits codewords)) n e)

    pub filling_end : length codewords ≤ most_data v → ends (drop p.cursor.at (byte_bits codewords)) ≡ true
        → FillReads codewords v payload list (Ok (record { payload = p.used; segments = p.segments }))
    unfolding front
    filling_end s g =
        let h = load_enough v p.cursor.at p.used p.segments f.load (omega (arith, f.inside)) in
        let e : front v (drop p.cursor.at (byte_bits codewords)) ≡ End = rw g in (
          f.reads
              ∙ ap (joined (take p.used payload) (take (2 * p.segments) list)) (parse_end (8 * length codewords - p.segments) v (drop p.cursor.at (byte_bits codewords)) e)
              ∙ ap₂ Message (append-nil (take p.used payload)) (append-nil (take (2 * p.segments) list)),
          h.0,
          h.1,
        )

    module _ (g : ends (drop p.cursor.at (byte_bits codewords)) ≡ false) (payload' list' : List ℕ) (q : Progress)
        (s : Stepped codewords v p payload list payload' list' q) where
      -- its bits are not past the end
      within : q.cursor.at ≤ 8 * length codewords
      within =
          let w = segment_whole v s.mode s.count (drop p.cursor.at (byte_bits codewords)) s.fronts in
          omega (arith, s.place, w.holds, left_bits codewords p.cursor.at, going codewords p.cursor.at g)

      pub filling_less : 8 * length codewords - q.cursor.at < 8 * length codewords - p.cursor.at
      unfolding head_width
      filling_less = omega (arith, s.place, within)

      pub filling_more : length payload' ≡ length payload → length list' ≡ length list
          → Filling codewords v payload₀ list₀ payload' list' q
      unfolding head_width
      filling_more lp ll =
          let w = segment_whole v s.mode s.count (drop p.cursor.at (byte_bits codewords)) s.fronts in
          let d : ℕ = head_width v s.mode + body_width s.mode s.count in
          let x : drop d (drop p.cursor.at (byte_bits codewords)) ≡ drop (p.cursor.at + d) (byte_bits codewords) = drop-drop d p.cursor.at (byte_bits codewords) in
          let two : 2 * (p.segments + 1) ≡ 2 * p.segments + 2 = omega arith in
          record {
            long = lp ∙ f.long;
            longs = ll ∙ f.longs;
            load = rw (s.place, s.uses, s.more) (load_more v s.mode s.count p.cursor.at p.used p.segments w.knows f.load);
            inside = within;
            reads =
                f.reads
                ∙ ap (joined (take p.used payload) (take (2 * p.segments) list))
                (ap (λ (k : ℕ). parse k v (drop p.cursor.at (byte_bits codewords))) (fuel g)
                ∙ parse_segment (8 * length codewords - (p.segments + 1)) v (drop p.cursor.at (byte_bits codewords)) s.mode s.count s.fronts)
                ∙ joined_more (take p.used payload) (take (2 * p.segments) list) (characters s.mode s.count (drop (head_width v s.mode) (drop p.cursor.at (byte_bits codewords)))) s.mode s.count
                (parse (8 * length codewords - (p.segments + 1)) v (drop d (drop p.cursor.at (byte_bits codewords))))
                ∙ rw (s.place, s.uses, s.more, ← s.chars, ← s.lists, two, x);
          }
