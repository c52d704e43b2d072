-- The reader's refusals are 7 to 16, each exactly where the paper says so: a check's number is no later check's, and the stream's faults are 13 to 15.
use mathlib.Core.Path.{◌≡◌, refl, sym, ap}
use mathlib.Core.Logic.{◌≢◌, ◌↔◌, inl, inr}
use mathlib.Core.List.{List}
use Prim.Native.Nat.{ℕ, suc, ◌≤◌, ◌<◌}
use native.Mathlib.Omega.{arith}
use Rattle.basics.specs.Bits.{byte_bits}
use Rattle.tables.specs.Tables.{block_count}
use Rattle.parse.specs.Parse.{Parsed, Message, Fault, message}
use Rattle.parse.specs.Faults.{UnknownMode, RunsPast, BadGroup, FirstFault}
use Rattle.parse.proofs.Numbers.{fault_numbers}
use Rattle.parse.proofs.Refused.{stream_refused}
use Rattle.blocks.specs.Blocks.{data_of}
use Rattle.scan.specs.Received.{received}
use Rattle.reader.specs.Reader.{Refused, decided, First, Reads, Versioned, Formatted, AllStand, Small, NoVersion, OtherVersion, NoFormat, TwoFormats, NoCodeword, BlockStands}
use Rattle.reader.specs.Theorems.{ReaderNumbers, ReadsRefused, PastSize, PastVersions, PastFormats, StreamFaulty}
use Rattle.reader.proofs.Passing.{then_sized, then_plain, then_named}

-- ---- a check's own number, and the later ones

same_number : (k n : ℕ) → Refused k ≡ Refused n → k ≡ n
same_number k n e = cc

-- the check with the number k refused, where no later one has it
here : {F L : Type 0} {n : ℕ} (k : ℕ) → First F n (Refused k) L → (L → k ≢ n) → k ≡ n → F
here k (inl p) later e = p.0
here k (inr p) later e = absurd (later p.1 e)

-- another check refused
past : {F L : Type 0} {n : ℕ} (k : ℕ) → First F n (Refused k) L → k ≢ n → (F → ⊥) × L
past {n = n} k (inl p) d = absurd (d (same_number k n p.1))
past k (inr p) d = p

-- the numbers of a check and of those after it
from : {F L : Type 0} {n : ℕ} (k : ℕ) → First F n (Refused k) L → n ≤ 15 → (L → (suc n ≤ k) × (k ≤ 15)) → (n ≤ k) × (k ≤ 15)
from {n = n} k (inl p) h later = let e = same_number k n p.1 in (omega arith, omega arith)
from k (inr p) h later = let l = later p.1 in (omega (arith, l.0), l.1)

given : (v level mask t e k : ℕ) (p : Parsed) → Refused k ≡ decided v level mask t e p → p ≡ Fault k
given v level mask t e k (Message q r) h = absurd (let z : ◌≡◌ {A = ℕ} 0 1 = cc in omega arith)
given v level mask t e k (Fault n) h = ap Fault (sym (same_number k n h))

-- every block stands for a codeword, and the stream of their data has a fault with this number
record StreamRefuses (v level : ℕ) (bs : List ℕ) (k : ℕ) : Type 0 where
  blocks : ℕ → List ℕ
  ts : ℕ → ℕ
  es : ℕ → ℕ
  stand : (b : ℕ) → b < block_count v level → BlockStands v level bs b (blocks b) (ts b) (es b)
  fault : message v (data_of v level blocks) ≡ Fault k

stream_faulty : (v level mask k : ℕ) (bs : List ℕ) → AllStand v level mask bs (Refused k) → StreamRefuses v level bs k
stream_faulty v level mask k bs c =
    record { blocks = c.blocks; ts = c.ts; es = c.es; stand = c.stand; fault = given v level mask _ _ k _ c.gives }

faulty_number : (v level k : ℕ) (bs : List ℕ) → StreamRefuses v level bs k → (13 ≤ k) × (k ≤ 15)
faulty_number v level k bs f = fault_numbers v k (data_of v level f.blocks) f.fault

module _ (m : List ℕ) (k : ℕ) where
  formatted_number : (v : ℕ) → Formatted v m (Refused k) → (12 ≤ k) × (k ≤ 15)
  formatted_number v f = from k f.then (omega arith) (λ c. faulty_number v f.level k _ (stream_faulty v f.level f.mask k _ c))

  from_eleven : (v : ℕ) → First (TwoFormats v m) 11 (Refused k) (Formatted v m (Refused k)) → (11 ≤ k) × (k ≤ 15)
  from_eleven v f = from k f (omega arith) (formatted_number v)

  from_ten : (v : ℕ) → First (NoFormat v m) 10 (Refused k) (First (TwoFormats v m) 11 (Refused k) (Formatted v m (Refused k))) → (10 ≤ k) × (k ≤ 15)
  from_ten v f = from k f (omega arith) (from_eleven v)

  from_nine : (v : ℕ) → First (OtherVersion v m) 9 (Refused k) (First (NoFormat v m) 10 (Refused k) (First (TwoFormats v m) 11 (Refused k) (Formatted v m (Refused k))))
      → (9 ≤ k) × (k ≤ 15)
  from_nine v f = from k f (omega arith) (from_ten v)

  from_eight : Versioned m (Refused k) → (8 ≤ k) × (k ≤ 15)
  from_eight p = from k p.then (omega arith) (from_nine p.version)

  from_seven : First (NoVersion m) 7 (Refused k) (Versioned m (Refused k)) → (7 ≤ k) × (k ≤ 15)
  from_seven f = from k f (omega arith) from_eight

pub reader_numbers : ReaderNumbers
unfolding Reads
reader_numbers m payload_room list_room k (inl p) = let e = same_number k 16 p.1 in (omega arith, omega arith)
reader_numbers m payload_room list_room k (inr p) = let l = from_seven m k p.1 in (l.0, omega (arith, l.1))

-- ---- each number where its check refuses

module _ (m : List ℕ) (payload_room list_room : ℕ) where
  module _ (k : ℕ) (r : Reads m payload_room list_room (Refused k)) where
    is_small : k ≡ 16 → Small payload_room list_room
    unfolding Reads
    is_small e = here k r (λ l. let h = from_seven m k l in λ z. omega (arith, h.1)) e

    not_small : k ≢ 16 → (Small payload_room list_room → ⊥) × First (NoVersion m) 7 (Refused k) (Versioned m (Refused k))
    unfolding Reads
    not_small d = past k r d

    versioned : k ≢ 16 → k ≢ 7 → (Small payload_room list_room → ⊥) × Versioned m (Refused k)
    versioned d e = let s = not_small d in (s.0, (past k s.1 e).1)

    sized : (p : Versioned m (Refused k)) → (Small payload_room list_room → ⊥) → PastSize m payload_room list_room p.version
    sized p s = record { large = s; square = p.sized }

    -- the checks up to 9 are passed
    plain : 9 < k → k < 16
        → (v : ℕ) × PastVersions m payload_room list_room v × First (NoFormat v m) 10 (Refused k) (First (TwoFormats v m) 11 (Refused k) (Formatted v m (Refused k)))
    plain h l =
        let p = versioned (λ e. omega arith) (λ e. omega arith) in
        let a = past k p.1.then (λ e. omega arith) in
        let b = past k a.1 (λ e. omega arith) in
        (p.1.version, record { sized = sized p.1 p.0; low = a.0; same = b.0 }, b.1)

    -- and up to 11
    named : 11 < k → k < 16
        → (v : ℕ) × (level : ℕ) × (mask : ℕ) × PastFormats m payload_room list_room v level mask
        × First (NoCodeword v level (received v mask m)) 12 (Refused k) (AllStand v level mask (received v mask m) (Refused k))
    named h l =
        let p = plain (omega arith) l in
        let a = past k p.2 (λ e. omega arith) in
        let b = past k a.1 (λ e. omega arith) in
        let f = b.1 in
        (p.0, f.level, f.mask, record { plain = p.1; copy = f.copy; stands = f.stands; one = b.0 }, f.then)

  -- a number of the stream, in the words that say when it is given
  worded : (k : ℕ) (Faulty : ℕ → List ℕ → Type 0) → 13 ≤ k → k ≤ 15
      → ((v : ℕ) (held : List ℕ) → (message v held ≡ Fault k) ↔ FirstFault v (Faulty v) (byte_bits held))
      → Reads m payload_room list_room (Refused k)
      ↔ ((v : ℕ) × (level : ℕ) × (mask : ℕ) × PastFormats m payload_room list_room v level mask × StreamFaulty v level (received v mask m) (Faulty v))
  worded k Faulty l h says = (
    λ r. let n = named k r (omega arith) (omega arith) in
        let f = stream_faulty n.0 n.1 n.2 k _ (past k n.4 (λ e. omega arith)).1 in
        (n.0, n.1, n.2, n.3, record { blocks = f.blocks; ts = f.ts; es = f.es; stand = f.stand; fault = (says n.0 _).0 f.fault }),
    λ s. let f = s.4 in
        then_named m payload_room list_room s.0 s.1 s.2 (Refused k) s.3
        (inr (
          λ n. n.2 (f.blocks n.0) (f.ts n.0) (f.es n.0) (f.stand n.0 n.1),
          record { blocks = f.blocks; ts = f.ts; es = f.es; stand = f.stand; gives = ap (decided s.0 s.1 s.2 _ _) (sym ((says s.0 _).1 f.fault)) },
        )),
  )

pub reads_refused : ReadsRefused
unfolding Reads
reads_refused m payload_room list_room =
    record {
      sixteen = (λ r. is_small m payload_room list_room 16 r refl, λ s. inl (s, refl));
      seven = (
        λ r. let s = not_small m payload_room list_room 7 r (λ e. omega arith) in (s.0, here 7 s.1 (λ l e. omega (arith, (from_eight m 7 l).0)) refl),
        λ s. inr (s.0, inl (s.1, refl)),
      );
      eight = (
        λ r. let p = versioned m payload_room list_room 8 r (λ e. omega arith) (λ e. omega arith) in
            (p.1.version, sized m payload_room list_room 8 r p.1 p.0, here 8 p.1.then (λ l e. omega (arith, (from_nine m 8 p.1.version l).0)) refl),
        λ s. then_sized m payload_room list_room s.0 (Refused 8) s.1 (inl (s.2, refl)),
      );
      nine = (
        λ r. let p = versioned m payload_room list_room 9 r (λ e. omega arith) (λ e. omega arith) in
            let a = past 9 p.1.then (λ e. omega arith) in
            (p.1.version, sized m payload_room list_room 9 r p.1 p.0, a.0, here 9 a.1 (λ l e. omega (arith, (from_ten m 9 p.1.version l).0)) refl),
        λ s. then_sized m payload_room list_room s.0 (Refused 9) s.1 (inr (s.2, inl (s.3, refl))),
      );
      ten = (
        λ r. let p = plain m payload_room list_room 10 r (omega arith) (omega arith) in
            (p.0, p.1, here 10 p.2 (λ l e. omega (arith, (from_eleven m 10 p.0 l).0)) refl),
        λ s. then_plain m payload_room list_room s.0 (Refused 10) s.1 (inl (s.2, refl)),
      );
      eleven = (
        λ r. let p = plain m payload_room list_room 11 r (omega arith) (omega arith) in
            (p.0, p.1, here 11 (past 11 p.2 (λ e. omega arith)).1 (λ l e. omega (arith, (formatted_number m 11 p.0 l).0)) refl),
        λ s. let t = s.2 in then_plain m payload_room list_room s.0 (Refused 11) s.1 (inr (λ n. n 0 t.0 t.1 t.4, inl (t, refl))),
      );
      twelve = (
        λ r. let n = named m payload_room list_room 12 r (omega arith) (omega arith) in (
          n.0,
          n.1,
          n.2,
          n.3,
          here 12 n.4
              (λ c e. omega (arith, (faulty_number n.0 n.1 12 _ (stream_faulty n.0 n.1 n.2 12 _ c)).0)) refl,
        ),
        λ s. then_named m payload_room list_room s.0 s.1 s.2 (Refused 12) s.3 (inl (s.4, refl)),
      );
      thirteen = worded m payload_room list_room 13 (λ v. UnknownMode) (omega arith) (omega arith) (λ v held. (stream_refused v held).thirteen);
      fourteen = worded m payload_room list_room 14 RunsPast (omega arith) (omega arith) (λ v held. (stream_refused v held).fourteen);
      fifteen = worded m payload_room list_room 15 BadGroup (omega arith) (omega arith) (λ v held. (stream_refused v held).fifteen);
    }
