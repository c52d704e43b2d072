-- What the steps of `write` say.
use Rattle.std.specs.Prelude.{◌≡◌, cond, Option, None, Some, Result, Ok, Err, IfOk, IfErr, List, ◌++◌, map, ℕ, zero, suc, ◌*◌, ◌≤◌, eqb, length, drop}
use Rattle.basics.specs.Lists.{AtMost, up_to}
use Rattle.tables.specs.Tables.{side, most_codewords, most_modules}
use Rattle.modules.specs.Modules.{symbol}
use Rattle.modules.specs.Kinds.{finished}
use Rattle.penalty.specs.Penalty.{score, least_place}
use Rattle.writer.specs.declared.Symbol.{Symbol}
use Rattle.writer.specs.declared.Refusal.{Refusal}
use Rattle.writer.specs.declared.Refusal.TheVariants as kinds
use Rattle.writer.specs.Writer.{Request, Drawing, Drawn, Refused, taken, refusal, chosen, draw, output_after}

-- "The writer checks 1 to 6 in order": the number of each
abbrev pub refusal_number : Refusal → ℕ
refusal_number kinds.BadNumber = 1
refusal_number kinds.BadList = 2
refusal_number kinds.BadCounts = 3
refusal_number kinds.BadCharacter = 4
refusal_number kinds.NoFit = 5
refusal_number kinds.ShortOutput = 6

-- a number that is not 0
abbrev pub nonzero : ℕ → Option ℕ
nonzero zero = None
nonzero (suc n) = Some (suc n)

-- the refusal of a request for `out` bytes of output, or the version taken
pub record Checks (r : Request) (out : ℕ) (c : Result ℕ Refusal) : Type 0 where
  pub refused : IfErr c (λ e. refusal_number e ≡ refusal r out)
  pub version : IfOk c (λ v. (refusal r out ≡ 0) × (v ≡ taken r.level r.version r.list))

-- what is laid once for all masks: kinds of modules, of which each mask makes light and dark ones
pub record Base (v level : ℕ) (base : List ℕ) : Type 0 where
  pub long : length base ≡ side v * side v
  pub kinds : AtMost 18 base
  pub colours : (mask : ℕ) → AtMost 1 (finished v level mask base)

-- what stands past a version's matrix is as it was
pub record Beyond (v : ℕ) (before after : List ℕ) : Type 0 where
  pub rest : drop (side v * side v) after ≡ drop (side v * side v) before

-- "the least score is taken, the lowest mask among equals"
unfoldable pub least_mask : (v level : ℕ) (base : List ℕ) → ℕ
least_mask v level base = least_place (map (λ k. score (side v) (finished v level k base)) (up_to 8))

-- "mask (0 to 7, or 8 to choose)"
unfoldable pub mask_drawn : (v level mask : ℕ) (base : List ℕ) → ℕ
mask_drawn v level mask base = cond (eqb mask 8) (least_mask v level base) mask

-- the buffers in which a version's codewords are made and laid
pub record LayingBuffers (v : ℕ) (held words base : List ℕ) : Type 0 where
  pub held_long : length held ≡ most_codewords
  pub words_long : length words ≡ most_codewords
  pub base_long : length base ≡ side v * side v

-- the mask that is drawn, and its symbol in front of what was past it
pub record Finishes (v level mask : ℕ) (base out : List ℕ) (drawn : ℕ) (after : List ℕ) : Type 0 where
  pub choice : drawn ≡ mask_drawn v level mask base
  pub drawing : after ≡ finished v level drawn base ++ drop (side v * side v) out

-- the buffers of any version's drawing, and its output
pub record DrawingBuffers (v : ℕ) (held words base out : List ℕ) : Type 0 where
  pub held_long : length held ≡ most_codewords
  pub words_long : length words ≡ most_codewords
  pub base_long : length base ≡ most_modules
  pub out_long : side v * side v ≤ length out

-- the mask that is drawn, and the symbol of the codewords in front of what was past it
pub record DrawsAt (v level mask : ℕ) (cs out : List ℕ) (drawn : ℕ) (after : List ℕ) : Type 0 where
  pub choice : drawn ≡ chosen v level mask cs
  pub drawing : after ≡ symbol v level drawn cs ++ drop (side v * side v) out

-- ---- the answer

-- "Its answer: version, mask, side", or the refusal's number
abbrev pub Gives : Result Symbol Refusal → Drawing → Type 0
Gives (Ok s) (Drawn v mask modules) = s ≡ record { version = v; mask = mask; side = side v }
Gives (Ok s) (Refused n) = ⊥
Gives (Err e) (Drawn v mask modules) = ⊥
Gives (Err e) (Refused n) = refusal_number e ≡ n

-- what `write` answers and what the output then holds, refused or not
pub record Writes (r : Request) (out : List ℕ) (a : Result Symbol Refusal) (after : List ℕ) : Type 0 where
  pub given : Gives a (draw r (length out))
  pub output : after ≡ output_after (draw r (length out)) out
