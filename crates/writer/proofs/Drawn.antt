-- What is drawn: the version taken, the mask forced or chosen by the least score, and the symbol of the message's codewords.
use mathlib.Core.Path.{◌≡◌, refl, sym, ap, ◌∙◌}
use mathlib.Core.Logic.{◌≢◌, ◌⊎◌, inl, inr, by_cases}
use mathlib.Core.List.{List, map}
use Prim.Native.Nat.{ℕ, zero, suc, ◌≤◌, ◌<◌}
use native.Mathlib.Decide.{ℕ_discrete}
use native.Mathlib.Omega.{arith}
use borrow.Author.Tests.{ne_eqb}
use lib.ListN.{get_or}
use Rattle.basics.specs.Lists.{up_to}
use Rattle.basics.proofs.Lists.{length_map_up_to, get_d_map_up_to}
use Rattle.tables.specs.Tables.{side, Lawful}
use Rattle.modules.specs.Modules.{symbol}
use Rattle.modules.proofs.Geometry.{symbol_length, symbol_le}
use Rattle.penalty.specs.Penalty.{score, least_place}
use Rattle.penalty.specs.Promise.{LeastRule}
use Rattle.penalty.proofs.Least.{least}
use Rattle.writer.specs.Writer.{Request, Drawing, Drawn, taken, refusal, codewords, chosen, draw_at, refused_or, draw}
use Rattle.writer.specs.Promise.{BadNumber, BadList, BadCounts, BadCharacter, NoFit, Short, DrawnRules, DrawnModules}
use Rattle.writer.proofs.Fit.{fit_rule}
use Rattle.writer.proofs.Refusals.{refusals}

-- ---- a request that is not refused

-- no fault is there
pub record Sound (r : Request) (out : ℕ) : Type 0 where
  pub numbers : BadNumber r → ⊥
  pub modes : BadList r.list → ⊥
  pub sums : BadCounts r → ⊥
  pub characters : BadCharacter r.list r.payload → ⊥
  pub fit : NoFit r.level r.version r.list → ⊥
  pub room : Short r out → ⊥

passed : {fault rest : Type 0} (n k : ℕ) → k ≡ 0 → 0 < n → (fault × (k ≡ n)) ⊎ ((fault → ⊥) × rest) → (fault → ⊥) × rest
passed n k z p (inl (f, e)) = absurd (omega arith)
passed n k z p (inr r) = r

pub sound : (r : Request) (out : ℕ) → refusal r out ≡ 0 → Sound r out
sound r out z =
    let one = passed 1 (refusal r out) z (omega arith) (refusals r out) in
    let two = passed 2 (refusal r out) z (omega arith) one.1 in
    let three = passed 3 (refusal r out) z (omega arith) two.1 in
    let four = passed 4 (refusal r out) z (omega arith) three.1 in
    let five = passed 5 (refusal r out) z (omega arith) four.1 in
    let six = passed 6 (refusal r out) z (omega arith) five.1 in
    record { numbers = one.0; modes = two.0; sums = three.0; characters = four.0; fit = five.0; room = six.0 }

-- the version that is taken then is one of the paper's
pub taken_lawful : (r : Request) (out : ℕ) → refusal r out ≡ 0 → Lawful (taken r.level r.version r.list) r.level
taken_lawful r out z =
    let s = sound r out z in
    let l : 3 < r.level → ⊥ = λ h. s.numbers (inl h) in
    let rule = fit_rule r.level r.version r.list in
    let t : taken r.level r.version r.list ≢ 0 = λ e. s.fit (rule.none.0 e) in
    record { least = omega arith; most = rule.within; levels = omega arith }

-- ---- what is drawn

not_refused : (n : ℕ) (d : Drawing) (v mask : ℕ) (modules : List ℕ) → refused_or n d ≡ Drawn v mask modules → (n ≡ 0) × (d ≡ Drawn v mask modules)
not_refused zero d v mask modules e = (refl, e)
not_refused (suc n) d v mask modules e = absurd (let z : ◌≡◌ {A = ℕ} 0 1 = cc in omega arith)

pub drawn_sound : (r : Request) (out v mask : ℕ) (modules : List ℕ) → draw r out ≡ Drawn v mask modules
    → (refusal r out ≡ 0) × (draw_at (taken r.level r.version r.list) r ≡ Drawn v mask modules)
unfolding draw
drawn_sound r out v mask modules e = not_refused (refusal r out) (draw_at (taken r.level r.version r.list) r) v mask modules e

-- ---- the mask

module _ (v level : ℕ) (cs : List ℕ) where
  -- the score under mask k
  abbrev scored : ℕ → ℕ
  scored k = score (side v) (symbol v level k cs)

  pub chosen_forced : (mask : ℕ) → mask < 8 → chosen v level mask cs ≡ mask
  unfolding chosen
  chosen_forced mask h = rw (ne_eqb mask 8 (λ e. omega arith))

  pub chosen_least : chosen v level 8 cs ≡ least_place (map scored (up_to 8))
  unfolding chosen
  chosen_least = refl

  eight : LeastRule (map scored (up_to 8))
  eight = least (map scored (up_to 8)) (rw length_map_up_to (omega arith))

  pub chosen_small : (mask : ℕ) → mask ≤ 8 → chosen v level mask cs < 8
  chosen_small mask h =
      by_cases (ℕ_discrete mask 8) (λ (e : mask ≡ 8). rw (e, chosen_least) (rw length_map_up_to at eight.inside))
      (λ n. rw (chosen_forced mask (omega arith)) (omega arith))

  -- the score at a place of the list
  at_place : (k : ℕ) → k < 8 → get_or (map scored (up_to 8)) k 0 ≡ scored k
  at_place k h = get_d_map_up_to scored 8 k 0 h

  best : least_place (map scored (up_to 8)) < 8
  best = rw length_map_up_to at eight.inside

  chosen_no_more : (k : ℕ) → k < 8 → scored (chosen v level 8 cs) ≤ scored k
  chosen_no_more k h =
      rw (chosen_least, ← at_place (least_place (map scored (up_to 8))) best, ← at_place k h) (eight.least k (rw length_map_up_to h))

  chosen_lowest : (k : ℕ) → k < chosen v level 8 cs → scored (chosen v level 8 cs) < scored k
  chosen_lowest k h =
      let l : k < least_place (map scored (up_to 8)) = rw chosen_least at h in
      rw (chosen_least, ← at_place (least_place (map scored (up_to 8))) best, ← at_place k (omega (arith, best))) (eight.lowest k l)

pub drawn_rules : DrawnRules
unfolding draw_at
drawn_rules r out v mask modules e =
    let d = drawn_sound r out v mask modules e in
    let t = d.1 in
    let s = sound r out d.0 in
    let most : 8 < r.mask → ⊥ = λ h. s.numbers (inr (inr h)) in
    let version : taken r.level r.version r.list ≡ v = cc in
    let e₁ : chosen v r.level r.mask (codewords v r) ≡ mask = cc in
    let e₂ : symbol v r.level mask (codewords v r) ≡ modules = cc in
    let free : r.mask ≡ 8 → chosen v r.level 8 (codewords v r) ≡ mask =
    λ h. ap (λ (k : ℕ). chosen v r.level k (codewords v r)) (sym h) ∙ e₁ in
    record {
      lawful = rw version at (taken_lawful r out d.0);
      version = sym version;
      masks = rw (← e₁) (chosen_small v r.level (codewords v r) r.mask (omega arith));
      forced = λ h. sym e₁ ∙ chosen_forced v r.level (codewords v r) r.mask h;
      drawing = sym e₂;
      least = λ h k l. rw (← e₂, ← free h) (chosen_no_more v r.level (codewords v r) k l);
      lowest = λ h k l. rw (← e₂, ← free h) (chosen_lowest v r.level (codewords v r) k (rw (← free h) at l));
    }

-- "The writer never writes 2"
pub drawn_modules : DrawnModules
drawn_modules r out v mask modules e =
    let rule = drawn_rules r out v mask modules e in
    let l = rule.lawful in
    rw rule.drawing (
      symbol_length v l.least l.most r.level mask (codewords v r),
      symbol_le v l.least l.most r.level mask (codewords v r),
    )
