-- `blocks::Sizes::add_checks` meets its contract. The invariant: the data stands in front, and behind it the checks of the first b blocks.
use Rattle.std.proofs.Common.{◌≡◌, ℕ, ◌++◌, ◌+◌, ◌*◌, ◌≤◌, ◌<◌, length, refl, sym, ap, ◌∙◌, take, drop, arith}
use native.Mathlib.Nat.{zero-mul, suc-mul}
use lib.Seq.{length-take-le}
use native.Mathlib.Numerals.{add-one}
use Rattle.basics.proofs.Parts.{length_lent, length_part}
use Rattle.tables.specs.Tables.{block_count, data_count}
use Rattle.tables.proofs.Rules.{checks_most}
use Rattle.blocks.proofs.Behind.{front, front_none, front_more, front_all, made_checks, checks_end, length_front_data, front_ends, held_part}
use Rattle.blocks.proofs.Ends.{made_end}
use Rattle.blocks.proofs.Sizes.add_checks.Goals as goal

pub loop-b-init : goal.loop-b-init
loop-b-init c =
    let s = c.args.self in
    let words = c.args.words.now in
    record { long = refl; done = rw zero-mul (front_none s.v s.level _ words (data_count s.v s.level + 0) (ap (λ (n : ℕ). take n words) (omega arith))) }

pub slice_bounds-copy_from_slice-end-in-loop-b : goal.slice_bounds-copy_from_slice-end-in-loop-b
slice_bounds-copy_from_slice-end-in-loop-b c = let s = c.args.self in sym (length-take-le _ _ (omega (arith, s.of_checks, checks_most s.v s.level s.lawful)))

pub copy_from_slice-requires : goal.copy_from_slice-requires
copy_from_slice-requires c =
    let s = c.args.self in
    length_part _ _ _ (omega (arith, s.of_checks, made_end s.v s.level c.loop-b.b s.lawful (omega arith)))
    ∙ sym (length-take-le _ _ (omega (arith, s.of_checks, checks_most s.v s.level s.lawful)))

-- the place of the next block's checks
next_place : (d b m n : ℕ) → n ≡ m → d + b * m + n ≡ d + (b + 1) * m
next_place d b m n e = rw (add-one, suc-mul, e) (omega arith)

pub loop-b-preserved : goal.loop-b-preserved
loop-b-preserved c =
    let l = c.loop-b in
    let i = l.invariant in
    let s = c.args.self in
    let v = s.v in
    let level = s.level in
    let words_0 = c.args.words.now in
    let codewords = take (data_count v level) words_0 in
    let lawful = s.lawful in
    let next : l.b < block_count v level = omega arith in
    let behind = c.behind-c.ensures in
    let room : c.behind-c.result + s.checks ≤ length l.words = omega (arith, behind, s.of_checks, made_end v level l.b lawful next) in
    let long = length_front_data v level lawful words_0 c.requires in
    let held = held_part v level lawful codewords long l.words _ l.b l.b c.start-a.result c.data.result i.done next c.start-a.ensures c.data.ensures in
    record {
      long = length_lent l.words c.copy_from_slice.new.self c.behind-c.result s.checks room (c.copy_from_slice.ensures.len ∙ length_part l.words c.behind-c.result s.checks room) ∙ i.long;
      done = front_more v level codewords l.words words_0 c.copy_from_slice.new.self l.b c.behind-c.result s.checks
          (rw behind i.done)
          (front_ends v level lawful codewords long l.b c.behind-c.result behind)
          (made_checks v level codewords _ c.remainder-made.result c.copy_from_slice.new.self s.checks l.b s.of_checks held c.remainder-made.ensures.front c.copy_from_slice.ensures.after)
          ∙ ap (λ (n : ℕ). front v level codewords (l.b + 1) ++ drop n words_0) (rw behind (next_place _ l.b _ _ s.of_checks));
    }

pub returns : goal.returns
returns c =
    let s = c.args.self in
    let l = c.loop-b in
    let all : l.b ≡ block_count s.v s.level = omega arith in
    front_all s.v s.level _ l.words c.args.words.now l.b _ l.invariant.done all (checks_end s.v s.level s.lawful l.b _ all refl ∙ sym c.requires)
