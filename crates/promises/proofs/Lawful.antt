-- What is read is a lawful message that fits the caller's buffers: it is what the data codewords of the blocks hold, and there are as many of
-- them as the version and level has.
use mathlib.Core.Path.{◌≡◌, sym, subst, subst₂}
use mathlib.Core.Logic.{inl, inr}
use mathlib.Core.List.{List}
use Prim.Native.Nat.{ℕ, zero, suc, ◌*◌, ◌≤◌, ◌<◌}
use native.Mathlib.Omega.{arith}
use Rattle.basics.specs.Sums.{sum}
use Rattle.tables.specs.Tables
use Rattle.tables.proofs.Rules.{room_most, checks_most, blocks_most}
use Rattle.stream.specs.Stream.{LawfulMessage}
use Rattle.parse.specs.Parse.{Parsed, Message, Fault}
use Rattle.parse.proofs.Lawful.{parsed_lawful, buffers_enough}
use Rattle.scan.specs.Received.{received}
use Rattle.reader.specs.Reader.{Read, Refused, decided, First, Reads}
use Rattle.reader.proofs.Data.{data_length}
use Rattle.promises.specs.Promises.{ReadsLawful}

module _ (v level mask t e : ℕ) (payload list : List ℕ) where
  -- a reading is no refusal
  not_refused : (n : ℕ) → Read v level mask payload list t e ≡ Refused n → ⊥
  not_refused n p = let z : ◌≡◌ {A = ℕ} 0 1 = cc in omega arith

  passed : {F L : Type 0} {n : ℕ} → First F n (Read v level mask payload list t e) L → (F → ⊥) × L
  passed {n = n} (inl p) = absurd (not_refused n p.1)
  passed (inr p) = p

  -- the stream gave it
  gave : (w l k x y : ℕ) (p : Parsed) → Read v level mask payload list t e ≡ decided w l k x y p → (v ≡ w) × (level ≡ l) × (mask ≡ k) × (t ≡ x) × (e ≡ y) × (p ≡ Message payload list)
  gave w l k x y (Message q r) h = (cc, cc, cc, cc, cc, cc)
  gave w l k x y (Fault n) h = absurd (not_refused n h)

sum_thirty : (n : ℕ) (f : ℕ → ℕ) → ((b : ℕ) → b < n → f b ≤ 30) → sum n f ≤ 30 * n
unfolding sum
sum_thirty zero f few = omega arith
sum_thirty (suc n) f few = omega (arith, sum_thirty n f (λ b l. few b (omega arith)), few n (omega arith))

-- eight counts of at most 30
sum_most : (n : ℕ) (f : ℕ → ℕ) → n ≤ 8 → ((b : ℕ) → b < n → f b ≤ 30) → sum n f ≤ 240
sum_most n f h few = omega (arith, sum_thirty n f few)

pub reads_lawful : ReadsLawful
unfolding Reads
reads_lawful m payload_room list_room v level mask t e payload list reads =
    let small = passed v level mask t e payload list reads in
    let sized = passed v level mask t e payload list small.1 in
    let p = sized.1 in
    let f = (passed v level mask t e payload list (passed v level mask t e payload list (passed v level mask t e payload list (passed v level mask t e payload list p.then).1).1).1).1 in
    let d = (passed v level mask t e payload list f.then).1 in
    let lawful : Tables.Lawful p.version f.level = record { least = p.sized.least; most = p.sized.most; levels = omega (arith, f.stands.levels) } in
    let g = gave v level mask t e payload list _ _ _ _ _ _ d.gives in
    let long = data_length p.version f.level (received p.version f.mask m) d.blocks lawful (λ b l. (d.stand b l).long) in
    let few : (b : ℕ) → b < Tables.block_count p.version f.level → (d.ts b ≤ 30) × (d.es b ≤ 30) =
    λ b h. (
      omega (arith, (d.stand b h).near, room_most p.version f.level, checks_most p.version f.level lawful),
      omega (arith, (d.stand b h).near, room_most p.version f.level, checks_most p.version f.level lawful),
    ) in
    let room = buffers_enough p.version f.level _ payload list lawful long g.5 in
    record {
      lawful = subst₂ Tables.Lawful (sym g.0) (sym g.1) lawful;
      masks = subst (λ (k : ℕ). k < 8) (sym g.2) f.stands.masks;
      message = subst₂ (λ (v level : ℕ). LawfulMessage v level payload list) (sym g.0) (sym g.1) (parsed_lawful p.version f.level _ payload list lawful long g.5);
      payload_most = room.0;
      list_most = room.1;
      differing_most = subst (λ (t : ℕ). t ≤ 240) (sym g.3) (sum_most _ d.ts (blocks_most _ _ lawful) (λ b h. (few b h).0));
      unreadable_most = subst (λ (t : ℕ). t ≤ 240) (sym g.4) (sum_most _ d.es (blocks_most _ _ lawful) (λ b h. (few b h).1));
    }
