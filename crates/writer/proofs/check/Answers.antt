-- `writer::check` meets its contract: at each return, what the checks gave decides the answer.
use mathlib.Core.Path.{◌≡◌, sym, ap, ◌∙◌}
use Prim.Native.Nat.{◌≤◌}
use native.Mathlib.Nat.{mul-le-mul}
use native.Mathlib.Omega.{arith}
use Rattle.tables.specs.Tables.{side, last_version, most_side}
use Rattle.writer.specs.Writer.{request, taken}
use Rattle.writer.proofs.Answers.{checks_refused, checks_passed}
use Rattle.writer.proofs.Fit.{fit_rule, some_taken, none_taken}
use Rattle.writer.proofs.Refusals.{numbers_right, refused_1, refused_2, refused_3, refused_4, refused_5, refused_6, not_refused}
use Rattle.writer.proofs.check.Goals as goal

pub returns-then-not-in_range : goal.returns-then-not-in_range
returns-then-not-in_range c = checks_refused _ _ _ (sym (refused_1 _ _ (sym c.in_range.ensures ∙ c.if-not-in_range.true)))

pub returns-then-not-lawful_list : goal.returns-then-not-lawful_list
returns-then-not-lawful_list c =
    let a = c.args in
    let asked = request a.payload.now a.list.now a.level a.version a.mask in
    let one = sym c.in_range.ensures ∙ c.if-not-in_range.false in
    checks_refused _ _ _ (sym (refused_2 asked _ one (sym c.lawful_list.ensures ∙ c.if-not-lawful_list.true)))

pub returns-then-not-counts_match : goal.returns-then-not-counts_match
returns-then-not-counts_match c =
    let a = c.args in
    let asked = request a.payload.now a.list.now a.level a.version a.mask in
    let one = sym c.in_range.ensures ∙ c.if-not-in_range.false in
    let two = sym c.lawful_list.ensures ∙ c.if-not-lawful_list.false in
    checks_refused _ _ _ (sym (refused_3 asked _ one two (sym c.counts_match.ensures ∙ c.if-not-counts_match.true)))

pub returns-then-not-lawful_characters : goal.returns-then-not-lawful_characters
returns-then-not-lawful_characters c =
    let a = c.args in
    let asked = request a.payload.now a.list.now a.level a.version a.mask in
    let one = sym c.in_range.ensures ∙ c.if-not-in_range.false in
    let two = sym c.lawful_list.ensures ∙ c.if-not-lawful_list.false in
    checks_refused _ _ _ (sym (refused_4 asked _ one two (sym c.counts_match.ensures ∙ c.if-not-counts_match.false) (sym c.lawful_characters.ensures ∙ c.if-not-lawful_characters.true)))

pub version_taken-requires : goal.version_taken-requires
version_taken-requires c =
    let a = c.args in
    let asked = request a.payload.now a.list.now a.level a.version a.mask in
    let numbers = numbers_right asked (sym c.in_range.ensures ∙ c.if-not-in_range.false) in
    (numbers.0, numbers.1.0)

pub returns-in_default : goal.returns-in_default
returns-in_default c =
    let a = c.args in
    let asked = request a.payload.now a.list.now a.level a.version a.mask in
    let one = sym c.in_range.ensures ∙ c.if-not-in_range.false in
    let two = sym c.lawful_list.ensures ∙ c.if-not-lawful_list.false in
    let three = sym c.counts_match.ensures ∙ c.if-not-counts_match.false in
    let four = sym c.lawful_characters.ensures ∙ c.if-not-lawful_characters.false in
    checks_refused _ _ _ (sym (refused_5 asked _ one two three four (none_taken _ c.in_default.ensures)))

pub side-s-requires : goal.side-s-requires
side-s-requires c =
    let t = some_taken (taken c.args.level c.args.version c.args.list.now) _ c.in-Some.ensures in
    omega (arith, t, (fit_rule c.args.level c.args.version c.args.list.now).within)

pub overflow_mul-s : goal.overflow_mul-s
overflow_mul-s c =
    let t = some_taken (taken c.args.level c.args.version c.args.list.now) _ c.in-Some.ensures in
    let within : c.in-Some.v ≤ last_version = omega (arith, t, (fit_rule c.args.level c.args.version c.args.list.now).within) in
    let b : c.side-s.result ≤ most_side = omega (arith, c.side-s.ensures) in
    omega (arith, mul-le-mul b b)

pub returns-then-room-s : goal.returns-then-room-s
returns-then-room-s c =
    let a = c.args in
    let asked = request a.payload.now a.list.now a.level a.version a.mask in
    let one = sym c.in_range.ensures ∙ c.if-not-in_range.false in
    let two = sym c.lawful_list.ensures ∙ c.if-not-lawful_list.false in
    let three = sym c.counts_match.ensures ∙ c.if-not-counts_match.false in
    let four = sym c.lawful_characters.ensures ∙ c.if-not-lawful_characters.false in
    let t = some_taken (taken a.level a.version a.list.now) _ c.in-Some.ensures in
    let sized : c.side-s.result ≡ side (taken a.level a.version a.list.now) = c.side-s.ensures ∙ ap side t.0 in
    checks_refused _ _ _ (sym (refused_6 asked _ one two three four t.1 (rw (← sized) c.if-room-s.true)))

pub returns : goal.returns
returns c =
    let a = c.args in
    let asked = request a.payload.now a.list.now a.level a.version a.mask in
    let one = sym c.in_range.ensures ∙ c.if-not-in_range.false in
    let two = sym c.lawful_list.ensures ∙ c.if-not-lawful_list.false in
    let three = sym c.counts_match.ensures ∙ c.if-not-counts_match.false in
    let four = sym c.lawful_characters.ensures ∙ c.if-not-lawful_characters.false in
    let t = some_taken (taken a.level a.version a.list.now) _ c.in-Some.ensures in
    let sized : c.side-s.result ≡ side (taken a.level a.version a.list.now) = c.side-s.ensures ∙ ap side t.0 in
    checks_passed asked _ _ (not_refused asked _ one two three four t.1 (rw (← sized) c.if-room-s.false)) t.0
