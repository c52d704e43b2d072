-- The answer of `write`, refused or drawn, from what its steps gave.
use mathlib.Core.Path.{◌≡◌, refl, ◌∙◌}
use mathlib.Core.Bool.{Bool, true, false}
use mathlib.Core.Logic.{◌≢◌, inr}
use mathlib.Core.List.{List}
use Prim.Native.Nat.{ℕ, zero, suc, ◌*◌, ◌≤◌, ◌<◌}
use native.Mathlib.Omega.{arith}
use borrow.Author.Tests.{eqb-true}
use lib.Dec.{eqb}
use lib.ListN.{length}
use Rattle.basics.specs.Lists.{AtMost}
use Rattle.tables.specs.Tables.{side, Lawful}
use Rattle.stream.specs.Stream.{LawfulMessage, lawful_list, counts, lawful_characters}
use Rattle.modules.proofs.Geometry.{symbol_length}
use Rattle.std.specs.Prelude.{Ok, Err}
use Rattle.writer.specs.declared.Refusal.{Refusal}
use Rattle.writer.specs.declared.Refusal.TheVariants as kinds
use Rattle.writer.specs.Writer.{Request, Refused, in_range, unless, taken, refusal, chosen, codewords, draw_at, draw}
use Rattle.writer.specs.Answer.{refusal_number, Checks, DrawsAt, Writes}
use Rattle.writer.proofs.Fit.{fit_rule}
use Rattle.writer.proofs.Drawn.{sound, taken_lawful}

module _ (r : Request) (out : ℕ) where
  pub draw_refused : (n : ℕ) → n ≡ refusal r out → n ≢ 0 → draw r out ≡ Refused n
  unfolding draw
  draw_refused zero e z = absurd (z refl)
  draw_refused (suc n) e z = rw (← e)

  pub draw_accepted : refusal r out ≡ 0 → draw r out ≡ draw_at (taken r.level r.version r.list) r
  unfolding draw
  draw_accepted e = rw e

-- no refusal has the number 0
refusal_some : (e : Refusal) → refusal_number e ≡ 0 → ⊥
refusal_some kinds.BadNumber h = omega arith
refusal_some kinds.BadList h = omega arith
refusal_some kinds.BadCounts h = omega arith
refusal_some kinds.BadCharacter h = omega arith
refusal_some kinds.NoFit h = omega arith
refusal_some kinds.ShortOutput h = omega arith

-- a check that was passed
unless_passed : (b : Bool) (n k : ℕ) → 0 < n → unless b n k ≡ 0 → (b ≡ true) × (k ≡ 0)
unless_passed true n k h e = (refl, e)
unless_passed false n k h e = absurd (omega arith)

-- what is not refused is a lawful message that fits
pub accepted_lawful : (r : Request) (out : ℕ) → refusal r out ≡ 0 → AtMost 255 r.payload
    → LawfulMessage (taken r.level r.version r.list) r.level r.payload r.list
unfolding refusal
accepted_lawful r out e bytes =
    let v = taken r.level r.version r.list in
    let one = unless_passed (in_range r.level r.version r.mask) 1 _ (omega arith) e in
    let two = unless_passed (lawful_list r.list) 2 _ (omega arith) one.1 in
    let three = unless_passed (eqb (counts r.list) (length r.payload)) 3 _ (omega arith) two.1 in
    let four = unless_passed (lawful_characters r.list r.payload) 4 _ (omega arith) three.1 in
    let s = sound r out e in
    let rule = fit_rule r.level r.version r.list in
    record {
      bytes = bytes;
      modes = two.0;
      sums = eqb-true _ _ three.0;
      characters = four.0;
      fit = rule.takes (λ z. s.fit (rule.none.0 z));
    }

pub accepted_room : (r : Request) (out : ℕ) → refusal r out ≡ 0
    → side (taken r.level r.version r.list) * side (taken r.level r.version r.list) ≤ out
accepted_room r out e =
    let h = (sound r out e).room in
    omega arith

pub accepted_mask : (r : Request) (out : ℕ) → refusal r out ≡ 0 → r.mask ≤ 8
accepted_mask r out e =
    let h : 8 < r.mask → ⊥ = λ l. (sound r out e).numbers (inr (inr l)) in
    omega arith

-- the answer of the checks: a refusal, by its number, or the version taken
pub checks_refused : (r : Request) (out : ℕ) (e : Refusal) → refusal_number e ≡ refusal r out → Checks r out (Err e)
checks_refused r out e h = record { refused = h; version = tt }

pub checks_passed : (r : Request) (out v : ℕ) → refusal r out ≡ 0 → v ≡ taken r.level r.version r.list → Checks r out (Ok v)
checks_passed r out v z e = record { refused = tt; version = (z, e) }

-- a refusal leaves the output
pub writes_refusal : (r : Request) (out : List ℕ) (e : Refusal) → refusal_number e ≡ refusal r (length out) → Writes r out (Err e) out
writes_refusal r out e h =
    let some : refusal_number e ≢ 0 = λ z. refusal_some e z in
    let d = draw_refused r (length out) (refusal_number e) h some in
    record { given = rw d; output = rw d }

-- a drawing stands in front of what was past it
pub writes_drawing : (r : Request) (out : List ℕ) (v drawn s : ℕ) (after : List ℕ) → refusal r (length out) ≡ 0
    → v ≡ taken r.level r.version r.list → DrawsAt v r.level r.mask (codewords v r) out drawn after → s ≡ side v
    → Writes r out (Ok (record { version = v; mask = drawn; side = s })) after
unfolding draw_at
writes_drawing r out v drawn s after z e a f =
    let d = draw_accepted r (length out) z in
    let l : Lawful v r.level = rw e (taken_lawful r (length out) z) in
    record {
      given = rw (d, ← e, f, a.choice);
      output = rw (d, ← e) (a.drawing ∙ rw (a.choice, symbol_length v l.least l.most r.level (chosen v r.level r.mask (codewords v r)) (codewords v r)));
    }
