-- A body read group after group: what is written and what is left make the body, and one group more keeps it so.
use mathlib.Core.Path.{◌≡◌, refl, sym, ap, ◌∙◌}
use mathlib.Core.Bool.{Bool, true, false, cond}
use mathlib.Core.List.{List, [], ◌++◌, append_assoc, append-nil}
use Rattle.std.specs.Prelude.{Ok, Err}
use Prim.Native.Nat.{ℕ, ◌+◌, ◌-◌, ◌<◌, ◌≤◌}
use native.Mathlib.Omega.{arith}
use lib.Dec.{eqb}
use lib.ListN.{length, take, drop}
use lib.Seq.{drop-drop}
use borrow.Author.Tests.{le-leb, lt-leb}
use Rattle.basics.specs.Bits.{byte_bits, number, bytes}
use Rattle.basics.proofs.Bits.{byte_bits_le}
use Rattle.cursor.specs.Cursor.{field}
use Rattle.cursor.proofs.Bits.{at_most_drop}
use Rattle.stream.specs.Stream.{known, body_width}
use Rattle.parse.specs.declared.Group.{Group}
use Rattle.parse.specs.declared.Fault.TheVariants.{OutOfRange}
use Rattle.parse.specs.Steps.{BodyReads}
use Rattle.parse.specs.Groups.{group_of, group_characters, InGroup}
use Rattle.parse.specs.Parse.{digits, digits_in_range, pairs, pairs_in_range, characters, groups_in_range}
use Rattle.parse.proofs.Groups.{NextGroup, next_group}

-- `done` of the body's characters are written after those used, and the cursor is at the group that comes next
pub record Along (codewords : List ℕ) (mode count used at₀ : ℕ) (payload₀ payload : List ℕ) (at done : ℕ) : Type 0 where
  pub long : length payload ≡ length payload₀
  pub passed : done ≤ count
  pub place : at + body_width mode (count - done) ≡ at₀ + body_width mode count
  pub ranges : groups_in_range mode count (drop at₀ (byte_bits codewords)) ≡ groups_in_range mode (count - done) (drop at (byte_bits codewords))
  pub chars : take used payload₀ ++ characters mode count (drop at₀ (byte_bits codewords))
      ≡ take (used + done) payload ++ characters mode (count - done) (drop at (byte_bits codewords))

-- a body of no characters
same_each : {A : Type 0} (a b : Bool) (x : A) → cond a x (cond b x x) ≡ x
same_each true b x = refl
same_each false true x = refl
same_each false false x = refl

pub none_ranges : (mode : ℕ) (bs : List ℕ) → groups_in_range mode 0 bs ≡ true
unfolding groups_in_range digits_in_range pairs_in_range
none_ranges mode bs = same_each (eqb mode 1) (eqb mode 2) true

none_chars : (mode : ℕ) (bs : List ℕ) → characters mode 0 bs ≡ []
unfolding characters digits pairs bytes
none_chars mode bs = same_each (eqb mode 1) (eqb mode 2) []

none_width : (mode : ℕ) → body_width mode 0 ≡ 0
unfolding body_width
none_width mode = same_each (eqb mode 1) (eqb mode 2) 0

module _ (codewords : List ℕ) (mode count used at₀ : ℕ) (payload₀ : List ℕ) where
  module _ (payload : List ℕ) (at done : ℕ) (a : Along codewords mode count used at₀ payload₀ payload at done) where
    -- all of it
    pub along_all : done ≡ count → BodyReads codewords at₀ mode count used payload₀ payload (Ok (record { at = at }))
    along_all e =
        let z : count - done ≡ 0 = omega arith in
        record {
          ranged = rw (a.ranges, z, none_ranges mode (drop at (byte_bits codewords)));
          chars = sym (a.chars ∙ rw (z, e, none_chars mode (drop at (byte_bits codewords))) (append-nil (take (used + count) payload)));
          place = omega (arith, a.place, ap (body_width mode) z, none_width mode);
        }

-- what the next group g is good for
pub record Turn (codewords : List ℕ) (mode count used at₀ : ℕ) (payload₀ payload : List ℕ) (at done : ℕ) (g : Group) : Type 0 where
  pub narrow : g.width ≤ 16
  pub holds : at + g.width ≤ at₀ + body_width mode count
  pub least : 1 ≤ g.size
  pub most : done + g.size ≤ count
  pub inside : (x : ℕ) → x ≤ g.most → InGroup mode g.size x
  pub broken : g.most < field codewords at g.width → BodyReads codewords at₀ mode count used payload₀ payload (Err OutOfRange)
  pub further : (after : List ℕ) (to x : ℕ) → length after ≡ length payload → to ≡ at + g.width → x ≡ field codewords at g.width → x ≤ g.most
      → take (used + done + g.size) after ≡ take (used + done) payload ++ group_characters mode g.size x
      → Along codewords mode count used at₀ payload₀ after to (done + g.size)

module _ (codewords : List ℕ) (mode count used at₀ : ℕ) (payload₀ payload : List ℕ) (at done : ℕ)
    (a : Along codewords mode count used at₀ payload₀ payload at done) (k : known mode ≡ true) (l : done < count) where
  n : NextGroup mode (count - done) (drop at (byte_bits codewords))
  n = next_group mode (count - done) (drop at (byte_bits codewords)) k (at_most_drop 1 at (byte_bits codewords) (byte_bits_le codewords)) (omega arith)

  the_turn : Turn codewords mode count used at₀ payload₀ payload at done (group_of mode (count - done))
  unfolding field
  the_turn =
      let s : ℕ = (group_of mode (count - done)).size in
      let d : ℕ = (group_of mode (count - done)).width in
      let e : count - done - s ≡ count - (done + s) = omega arith in
      let f : used + done + s ≡ used + (done + s) = omega arith in
      let x : drop d (drop at (byte_bits codewords)) ≡ drop (at + d) (byte_bits codewords) = drop-drop d at (byte_bits codewords) in
      record {
        narrow = n.narrow;
        holds = omega (arith, n.widths, a.place);
        least = n.least;
        most = omega (arith, n.most);
        inside = n.inside;
        broken = λ h. (rw (a.ranges, n.ranges, lt-leb _ _ h), refl);
        further = λ after to x' h p q r w. rw p (record {
          long = h ∙ a.long;
          passed = omega (arith, n.most);
          place = omega (arith, a.place, n.widths, ap (body_width mode) e);
          ranges = a.ranges ∙ n.ranges ∙ rw (le-leb _ _ (rw q at r), e, x);
          chars =
              a.chars ∙ ap (λ (y : List ℕ). take (used + done) payload ++ y) n.chars
              ∙ sym (append_assoc (take (used + done) payload) (group_characters mode s (number (take d (drop at (byte_bits codewords))))) (characters mode (count - done - s) (drop d (drop at (byte_bits codewords)))))
              ∙ rw (← q, ← w, e, f, x);
        });
      }

  pub turn : (g : Group) → g ≡ group_of mode (count - done) → Turn codewords mode count used at₀ payload₀ payload at done g
  turn g e = rw e the_turn
