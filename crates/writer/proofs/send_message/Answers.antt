-- `writer::send_message` meets its contract: the part that `encode` filled is in front of the part to which `send` adds the checks.
use mathlib.Core.Path.{◌≡◌, sym, ap, ◌∙◌}
use mathlib.Core.List.{List, ◌++◌}
use Prim.Native.Nat.{ℕ, ◌≤◌}
use native.Mathlib.Omega.{arith}
use lib.ListN.{length, take, drop, length-append, length-drop}
use lib.Seq.{take_at, take-take, length-take-le}
use Rattle.tables.specs.Tables.{total, Lawful, data_count, most_codewords}
use Rattle.tables.proofs.Rules.{data_checks, total_most}
use Rattle.blocks.specs.Blocks.{sent}
use Rattle.writer.proofs.send_message.Goals as goal

-- the counts: no more data codewords than there are codewords, and no more of these than the buffer holds
pub record Counts (v level count all : ℕ) (held : List ℕ) : Type 0 where
  pub count_all : count ≤ all
  pub all_held : all ≤ length held

counts : (v level count all : ℕ) (held : List ℕ) → Lawful v level → count ≡ data_count v level → all ≡ total v → length held ≡ most_codewords → Counts v level count all held
counts v level count all held lawful e f h =
    record { count_all = omega (arith, data_checks v level lawful); all_held = omega (arith, total_most v lawful.least lawful.most) }

-- what `encode` left in its part, and what follows it
room : (count all : ℕ) (written held : List ℕ) → count ≤ all → all ≤ length held → length written ≡ count → all ≤ length (written ++ drop count held)
room count all written held h l e = rw (length-append, length-drop) (omega arith)

in_front_lem : (d count all : ℕ) (written left : List ℕ) → count ≡ d → count ≤ all → length written ≡ count → take d (take all (written ++ left)) ≡ written
in_front_lem d count all written left e h l = take-take d all (written ++ left) (omega arith) ∙ take_at written left d (l ∙ e)

pub slice_bounds-encode-end : goal.slice_bounds-encode-end
slice_bounds-encode-end c =
    let s = counts _ _ _ _ _ c.requires.0 c.data-count.ensures c.total-all.ensures c.requires.1.1.0 in
    omega (arith, s.count_all, s.all_held)

pub slice_bounds-encode-end-2 : goal.slice_bounds-encode-end-2
slice_bounds-encode-end-2 c =
    let s = counts _ _ _ _ _ c.requires.0 c.data-count.ensures c.total-all.ensures c.requires.1.1.0 in
    sym (length-take-le _ _ (omega (arith, s.count_all, s.all_held)))

pub encode-requires : goal.encode-requires
encode-requires c =
    let s = counts _ _ _ _ _ c.requires.0 c.data-count.ensures c.total-all.ensures c.requires.1.1.0 in
    (c.requires.0, (c.requires.1.0, length-take-le _ _ (omega (arith, s.count_all, s.all_held)) ∙ c.data-count.ensures))

pub slice_bounds-send-end : goal.slice_bounds-send-end
slice_bounds-send-end c =
    let s = counts _ _ _ _ _ c.requires.0 c.data-count.ensures c.total-all.ensures c.requires.1.1.0 in
    room _ _ c.encode.new.out _ s.count_all s.all_held (c.encode.auto.out ∙ length-take-le _ _ (omega (arith, s.count_all, s.all_held)))

pub slice_bounds-send-end-2 : goal.slice_bounds-send-end-2
slice_bounds-send-end-2 c =
    let s = counts _ _ _ _ _ c.requires.0 c.data-count.ensures c.total-all.ensures c.requires.1.1.0 in
    sym (length-take-le _ _ (room _ _ c.encode.new.out _ s.count_all s.all_held (c.encode.auto.out ∙ length-take-le _ _ (omega (arith, s.count_all, s.all_held)))))

pub send-requires : goal.send-requires
send-requires c =
    let s = counts _ _ _ _ _ c.requires.0 c.data-count.ensures c.total-all.ensures c.requires.1.1.0 in
    let front = room _ _ c.encode.new.out _ s.count_all s.all_held (c.encode.auto.out ∙ length-take-le _ _ (omega (arith, s.count_all, s.all_held))) in
    (c.requires.0, (length-take-le _ _ front ∙ c.total-all.ensures, c.requires.1.1.1))

pub returns : goal.returns
returns c =
    let s = counts _ _ _ _ _ c.requires.0 c.data-count.ensures c.total-all.ensures c.requires.1.1.0 in
    let filled = c.encode.auto.out ∙ length-take-le _ _ (omega (arith, s.count_all, s.all_held)) in
    c.send.ensures.out_after ∙ ap (sent _ _) (in_front_lem _ _ _ c.encode.new.out _ c.data-count.ensures s.count_all filled ∙ c.encode.ensures)
