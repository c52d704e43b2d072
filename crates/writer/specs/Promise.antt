-- What is promised of a request's answer, beside the contract of `write`: each refusal under its own words and in order,
-- the version that is taken, the mask that is chosen, the modules that are drawn.
use Rattle.std.specs.Prelude.{Result, ◌≡◌, ◌≢◌, ◌⊎◌, ◌↔◌, true, false, List, ℕ, ◌+◌, ◌*◌, ◌%◌, ◌≤◌, ◌<◌, length, get_or, take}
use Rattle.basics.specs.Lists.{AtMost}
use Rattle.tables.specs.Tables.{side, last_version, Lawful}
use Rattle.stream.specs.Stream.{known, in_mode, counts, fits}
use Rattle.modules.specs.Modules.{symbol}
use Rattle.penalty.specs.Penalty.{score}
use Rattle.writer.specs.declared.Symbol.{Symbol}
use Rattle.writer.specs.declared.Refusal.{Refusal}
use Rattle.writer.specs.Writer.{Request, Drawn, draw, refusal, taken, codewords}
use Rattle.writer.specs.Answer.{Writes}

-- ---- the refusals

-- the number is n and the fault is there; or the fault is not there, and the later checks decide
abbrev pub Next : (fault : Type 0) (n : ℕ) (later : ℕ → Type 0) → ℕ → Type 0
Next fault n later k = (fault × (k ≡ n)) ⊎ ((fault → ⊥) × later k)

-- "level above 3, version above 10, mask above 8"
abbrev pub BadNumber : Request → Type 0
BadNumber r = (3 < r.level) ⊎ ((last_version < r.version) ⊎ (8 < r.mask))

-- "list length odd, or a mode not 1, 2, 4"
abbrev pub BadList : List ℕ → Type 0
BadList list = (length list % 2 ≡ 1) ⊎ ((k : ℕ) × ((2 * k < length list) × (known (get_or list (2 * k) 0) ≡ false)))

-- "counts do not sum to the payload length"
abbrev pub BadCounts : Request → Type 0
BadCounts r = counts r.list ≢ length r.payload

-- "a character outside its segment's mode": character i of segment k, whose characters follow those of the segments before it
abbrev pub BadCharacter : (list payload : List ℕ) → Type 0
BadCharacter list payload =
    (k : ℕ) × ((i : ℕ) × ((2 * k + 1 < length list) × ((i < get_or list (2 * k + 1) 0)
    × (in_mode (get_or list (2 * k) 0) (get_or payload (counts (take (2 * k) list) + i) 0) ≡ false))))

-- "needs more data bits than the named version has; with version 0, no version 1 to 10 fits"
abbrev pub NoFit : (level version : ℕ) (list : List ℕ) → Type 0
NoFit level version list = (v : ℕ) → 1 ≤ v → v ≤ last_version → (version ≢ 0 → v ≡ version) → fits v level list ≡ false

-- "writer's output shorter than s·s", for the version that is taken
abbrev pub Short : Request → (out : ℕ) → Type 0
Short r out = out < side (taken r.level r.version r.list) * side (taken r.level r.version r.list)

-- "The writer checks 1 to 6 in order"; 0 where each passes
abbrev pub Refusals : Type 0
Refusals = (r : Request) (out : ℕ)
    → Next (BadNumber r) 1
    (Next (BadList r.list) 2
    (Next (BadCounts r) 3
    (Next (BadCharacter r.list r.payload) 4
    (Next (NoFit r.level r.version r.list) 5
    (Next (Short r out) 6 (λ k. k ≡ 0))))))
    (refusal r out)

-- ---- the version

-- "the smallest v that fits", or the named one
pub record FitRule (level version : ℕ) (list : List ℕ) : Type 0 where
  pub none : (taken level version list ≡ 0) ↔ NoFit level version list
  pub within : taken level version list ≤ last_version
  pub takes : taken level version list ≢ 0 → fits (taken level version list) level list ≡ true
  pub named : version ≢ 0 → taken level version list ≢ 0 → taken level version list ≡ version
  pub least : (v : ℕ) → 1 ≤ v → v < taken level 0 list → fits v level list ≡ false

abbrev pub FitRules : Type 0
FitRules = (level version : ℕ) (list : List ℕ) → FitRule level version list

-- ---- the symbol

-- version, mask and modules of what is drawn
pub record DrawnRule (r : Request) (v mask : ℕ) (modules : List ℕ) : Type 0 where
  pub lawful : Lawful v r.level
  pub version : v ≡ taken r.level r.version r.list
  pub masks : mask < 8
  pub forced : r.mask < 8 → mask ≡ r.mask
  pub drawing : modules ≡ symbol v r.level mask (codewords v r)
  pub least : r.mask ≡ 8 → (k : ℕ) → k < 8 → score (side v) modules ≤ score (side v) (symbol v r.level k (codewords v r))
  pub lowest : r.mask ≡ 8 → (k : ℕ) → k < mask → score (side v) modules < score (side v) (symbol v r.level k (codewords v r))

abbrev pub DrawnRules : Type 0
DrawnRules = (r : Request) (out v mask : ℕ) (modules : List ℕ) → draw r out ≡ Drawn v mask modules → DrawnRule r v mask modules

-- "s·s bytes"; "The writer never writes 2"
abbrev pub DrawnModules : Type 0
DrawnModules = (r : Request) (out v mask : ℕ) (modules : List ℕ) → draw r out ≡ Drawn v mask modules
    → (length modules ≡ side v * side v) × AtMost 1 modules

-- ---- one answer

-- no two different answers, nor two outputs, satisfy the promise of `write`
abbrev pub WritesOnly : Type 0
WritesOnly = (r : Request) (out : List ℕ) (a a₁ : Result Symbol Refusal) (after after₁ : List ℕ)
    → Writes r out a after → Writes r out a₁ after₁ → (a ≡ a₁) × (after ≡ after₁)
