-- The symbol that a request gets, or its refusal.
use Rattle.std.specs.Prelude.{Bool, cond, ◌&&◌, List, [], ◌∷◌, ◌++◌, map, ℕ, zero, suc, ◌*◌, leb, eqb, length, drop}
use Rattle.basics.specs.Lists.{up_to, from, keep}
use Rattle.tables.specs.Tables.{side as side_of, last_version}
use Rattle.stream.specs.Stream.{lawful_list, counts, lawful_characters, fits, data_codewords}
use Rattle.blocks.specs.Blocks.{sent}
use Rattle.modules.specs.Modules.{symbol}
use Rattle.penalty.specs.Penalty.{score, least_place}

-- "Writer input: payload, list, level, version (1 to 10, or 0 for the smallest v that fits), mask (0 to 7, or 8 to choose)"
pub record Request : Type 0 where
  pub payload : List ℕ
  pub list : List ℕ
  pub level : ℕ
  pub version : ℕ
  pub mask : ℕ

-- one, from its parts
abbrev pub request : (payload list : List ℕ) (level version mask : ℕ) → Request
request p l e v m = record { payload = p; list = l; level = e; version = v; mask = m }

-- the first of the list, or 0 where it is empty
abbrev pub front_or0 : List ℕ → ℕ
front_or0 [] = 0
front_or0 (v ∷ vs) = v

-- the version taken; 0 where "the named version" does not fit, as none outside 1 to 10 does, or, "with version 0, no version 1 to 10 fits"
unfoldable pub taken : (level version : ℕ) → List ℕ → ℕ
taken level version list = front_or0 (keep (λ v. fits v level list) (cond (eqb version 0) (from 1 last_version) (version ∷ [])))

-- the first of several checks that fails, or 0
abbrev pub unless : (passes : Bool) → (n later : ℕ) → ℕ
unless passes n later = cond passes later n

-- "level above 3, version above 10, mask above 8": none of these
unfoldable pub in_range : (level version mask : ℕ) → Bool
in_range level version mask = leb level 3 && leb version last_version && leb mask 8

-- "The writer checks 1 to 6 in order": the number of the refusal, or 0
unfoldable pub refusal : Request → (out : ℕ) → ℕ
refusal r out =
    let v = taken r.level r.version r.list in
    unless (in_range r.level r.version r.mask) 1
    (unless (lawful_list r.list) 2
    (unless (eqb (counts r.list) (length r.payload)) 3
    (unless (lawful_characters r.list r.payload) 4
    (unless (leb 1 v) 5
    (unless (leb (side_of v * side_of v) out) 6 0)))))

-- the codewords of a message at a version and level, as they are sent
unfoldable pub codewords : (v : ℕ) → Request → List ℕ
codewords v r = sent v r.level (data_codewords v r.level r.list r.payload)

-- "With mask 8 the least score is taken, the lowest mask among equals"; "scored on the finished symbol"
unfoldable pub chosen : (v level mask : ℕ) (cs : List ℕ) → ℕ
chosen v level mask cs = let best = least_place (map (λ m. score (side_of v) (symbol v level m cs)) (up_to 8)) in cond (eqb mask 8) best mask

-- what a request gets
pub data Drawing : Type 0 where
  Drawn : (version mask : ℕ) (modules : List ℕ) → Drawing
  Refused : ℕ → Drawing

unfoldable pub draw_at : (v : ℕ) → Request → Drawing
draw_at v r =
    let cs = codewords v r in
    let mask = chosen v r.level r.mask cs in
    Drawn v mask (symbol v r.level mask cs)

-- the refusal where there is one, or else what is drawn
abbrev pub refused_or : (refusal : ℕ) → Drawing → Drawing
refused_or zero d = d
refused_or (suc n) d = Refused (suc n)

unfoldable pub draw : Request → (out : ℕ) → Drawing
draw r out = refused_or (refusal r out) (draw_at (taken r.level r.version r.list) r)

-- "It writes the first s·s output bytes only"; on a refusal, "Output memory is unchanged"
abbrev pub output_after : Drawing → (out : List ℕ) → List ℕ
output_after (Drawn v mask modules) out = modules ++ drop (length modules) out
output_after (Refused n) out = out
