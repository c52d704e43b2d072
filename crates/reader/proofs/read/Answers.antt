-- `reader::read` meets its contract: each way out is one law of `Telling`, from what the steps on the way ensure.
use Rattle.std.proofs.Common.{List, ℕ, ◌≤◌, length}
use Rattle.std.proofs.lemmas.Result.{err_from_is_err_and}
use Rattle.basics.specs.Lists.{AtMost}
use Rattle.tables.specs.Tables.{most_payload, most_list}
use Rattle.tables.specs.Version.{Square}
use Rattle.reader.specs.declared.Meta.{Meta}
use Rattle.reader.specs.Reader.{OtherVersion}
use Rattle.reader.specs.Steps.{FormatRead}
use Rattle.reader.specs.Theorems.{PastSize, PastVersions, PastFormats}
use Rattle.reader.proofs.Telling.{small, not_small, no_version, above, not_above, other_version, no_format, finished}
use Rattle.reader.proofs.read.Goals as goal

-- ---- what is known at each point of the way: of the matrix and the room

module _ (m payload list : List ℕ) (hp : most_payload ≤ length payload) (hl : most_list ≤ length list) (v : ℕ) (square : Square (length m) v) where
  -- 7 is passed: the version
  sized : PastSize m (length payload) (length list) v
  sized = record { large = not_small _ _ hp hl; square = square }

  module _ (fine : AtMost 2 m) (same : OtherVersion v m → ⊥) where
    -- 9 is passed
    plain : PastVersions m (length payload) (length list) v
    plain = record { sized = sized; low = not_above m fine; same = same }

    -- 10 and 11 are passed: the level and the mask
    named : (meta : Meta) → FormatRead v m meta → PastFormats m (length payload) (length list) v meta.level meta.mask
    named meta g = record { plain = plain; copy = g.copy; stands = g.stands; one = g.one }

-- ---- the goals

pub returns-then-payload-lt-MOST_PAYLOAD : goal.returns-then-payload-lt-MOST_PAYLOAD
returns-then-payload-lt-MOST_PAYLOAD c = small _ _ _ c.then-payload-lt-MOST_PAYLOAD.either

pub returns-in_err-v : goal.returns-in_err-v
returns-in_err-v c =
    let p = err_from_is_err_and c.from_residual.result c.from_residual.ensures.1 in
    rw (p.1, p.2) (no_version _ _ _ (not_small _ _ c.if-payload-lt-MOST_PAYLOAD.false c.if-list-lt-MOST_LIST.false) _ c.in_err-v.ensures)

pub returns-in_err-check_modules : goal.returns-in_err-check_modules
returns-in_err-check_modules c =
    let p = err_from_is_err_and c.from_residual-in_err-check_modules.result c.from_residual-in_err-check_modules.ensures.1 in
    rw (p.1, p.2) (above _ _ _ _ (sized _ _ _ c.if-payload-lt-MOST_PAYLOAD.false c.if-list-lt-MOST_LIST.false _ c.in_ok-v.ensures) _ c.in_err-check_modules.ensures)

pub returns-in_err-check_versions : goal.returns-in_err-check_versions
returns-in_err-check_versions c =
    let p = err_from_is_err_and c.from_residual-in_err-check_versions.result c.from_residual-in_err-check_versions.ensures.1 in
    rw (p.1, p.2) (other_version _ _ _ _ (sized _ _ _ c.if-payload-lt-MOST_PAYLOAD.false c.if-list-lt-MOST_LIST.false _ c.in_ok-v.ensures) (not_above _ c.in_ok-check_modules.ensures) _ c.in_err-check_versions.ensures)

pub returns-in_err-level : goal.returns-in_err-level
returns-in_err-level c =
    let p = err_from_is_err_and c.from_residual-in_err-level.result c.from_residual-in_err-level.ensures.1 in
    rw (p.1, p.2) (no_format _ _ _ _ (plain _ _ _ c.if-payload-lt-MOST_PAYLOAD.false c.if-list-lt-MOST_LIST.false _ c.in_ok-v.ensures c.in_ok-check_modules.ensures c.in_ok-check_versions.ensures) _ c.in_err-level.ensures)

pub returns : goal.returns
returns c =
    finished _ _ _ _ _ _ (named _ _ _ c.if-payload-lt-MOST_PAYLOAD.false c.if-list-lt-MOST_LIST.false _ c.in_ok-v.ensures c.in_ok-check_modules.ensures c.in_ok-check_versions.ensures _ c.in_ok-level.ensures)
    _ _ _ c.finish.ensures
