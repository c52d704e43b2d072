use Rattle.std.proofs.Common.{arith, rules, ◌≡◌, ℕ, ◌-◌, ◌*◌, ◌/◌, ◌%◌, ◌+◌, ◌<◌, [], ◌++◌, List, length, get_or, take, drop, ◌∙◌, ap, refl, sym}
use native.Mathlib.Nat.{mod-lt}
use Rattle.basics.specs.Bits.{bits}
use Rattle.basics.proofs.Bits.{bits_le}
use Rattle.std.specs.Simd.{first_chunks}
use Rattle.stream.specs.Put.{value, group_bits}
use Rattle.stream.proofs.Bodies.{group_full, group_last, group_none, array_at, array_more}
use Rattle.stream.proofs.Put.{piece_room, piece_put, going_done}
use Rattle.stream.proofs.BitWriter.put_groups.Goals as goal

module _ (base : ℕ) (widths l : List ℕ) (i n : ℕ) (w : length widths ≡ n) (s : 0 < length widths) where
  -- what is left is a full group and what is left behind it
  full : (group : List ℕ) (groups : List (List ℕ)) (number : ℕ) → groups ≡ first_chunks n (length l / n) l → length groups ≡ length l / n → i < length groups
      → group ≡ get_or groups i group → number ≡ value base group
      → group_bits base widths (drop (i * n) l) ≡ bits (get_or widths (n - 1) 0) number ++ group_bits base widths (drop ((i + 1) * n) l)
  full group groups number e k h g v =
      let a = array_more n i l (omega (arith, k)) in
      let it : group ≡ take n (drop (i * n) l) = g ∙ ap (λ (gs : List (List ℕ)). get_or gs i group) e ∙ array_at n (length l / n) i l group (omega (arith, k)) in
      ap (group_bits base widths) a.0 ∙ group_full base widths (take n (drop (i * n) l)) (drop ((i + 1) * n) l) s (a.1 ∙ sym w) ∙ rw (a.1, v, it)

  -- what is left at the end is less than a group
  module _ (rest : List ℕ) (e : i ≡ length l / n) (b : rest ≡ drop (length l / n * n) l) where
    left : drop (i * n) l ≡ rest
    left = ap (λ (k : ℕ). drop (k * n) l) e ∙ sym b

    last : (number : ℕ) → length rest ≡ length l % n → 0 < length rest → number ≡ value base rest
        → group_bits base widths (drop (i * n) l) ≡ bits (get_or widths (length rest - 1) 0) number ++ []
    last number m h v =
        let short : length l % n < n = mod-lt (length l) {m = n} (omega (arith, w, s)) in
        ap (group_bits base widths) left ∙ group_last base widths rest h (omega (arith, m, short, w)) ∙ rw v

    none : length rest ≡ 0 → group_bits base widths (drop (i * n) l) ≡ []
    none h = ap (group_bits base widths) left ∙ group_none base widths rest h

pub put_bits-requires : goal.put_bits-requires
put_bits-requires g c =
    let a = c.args in
    let e = full a.base a.widths.now a.chars.now c.loop-group.group-index g.row.N c.told-widths c.requires.0.some c.group-item.result _ c.value_of.result c.as_chunks.ensures.front
    c.as_chunks.ensures.front_len c.loop-group-test.true c.group-item.is c.value_of.ensures in
    (c.requires.0.narrow _ (omega (arith, c.told-widths, c.requires.0.some)), piece_room c.loop-group.invariant c.requires.1 _ _ e)

pub loop-group-preserved : goal.loop-group-preserved
loop-group-preserved g c =
    let a = c.args in
    let e = full a.base a.widths.now a.chars.now c.loop-group.group-index g.row.N c.told-widths c.requires.0.some c.group-item.result _ c.value_of.result c.as_chunks.ensures.front
    c.as_chunks.ensures.front_len c.loop-group-test.true c.group-item.is c.value_of.ensures in
    piece_put c.loop-group.invariant c.requires.1 _ _ e (bits_le _ _) c.put_bits.ensures

pub put_bits-requires-then-not-is_empty : goal.put_bits-requires-then-not-is_empty
put_bits-requires-then-not-is_empty g c =
    let a = c.args in
    let some : 0 < length c.as_chunks.result.1.now = search rules in
    let e = last a.base a.widths.now a.chars.now c.loop-group.group-index g.row.N c.told-widths c.requires.0.some c.as_chunks.result.1.now
    (omega (arith, c.loop-group-test.false, c.loop-group.auto.group-index-end, c.as_chunks.ensures.front_len)) c.as_chunks.ensures.back
    c.value_of-then-not-is_empty.result c.as_chunks.ensures.back_len some c.value_of-then-not-is_empty.ensures in
    let short : length c.as_chunks.result.1.now < g.row.N = search rules in
    (c.requires.0.narrow _ (omega (arith, c.told-widths, some, short)), piece_room c.loop-group.invariant c.requires.1 _ _ e)

pub returns-then-not-is_empty : goal.returns-then-not-is_empty
returns-then-not-is_empty g c =
    let a = c.args in
    let some : 0 < length c.as_chunks.result.1.now = search rules in
    let e = last a.base a.widths.now a.chars.now c.loop-group.group-index g.row.N c.told-widths c.requires.0.some c.as_chunks.result.1.now
    (omega (arith, c.loop-group-test.false, c.loop-group.auto.group-index-end, c.as_chunks.ensures.front_len)) c.as_chunks.ensures.back
    c.value_of-then-not-is_empty.result c.as_chunks.ensures.back_len some c.value_of-then-not-is_empty.ensures in
    going_done (piece_put c.loop-group.invariant c.requires.1 _ _ e (bits_le _ _) c.put_bits-then-not-is_empty.ensures) refl

pub returns-else-not-is_empty : goal.returns-else-not-is_empty
returns-else-not-is_empty g c =
    let a = c.args in
    going_done c.loop-group.invariant (none a.base a.widths.now a.chars.now c.loop-group.group-index g.row.N c.told-widths c.requires.0.some c.as_chunks.result.1.now
    (omega (arith, c.loop-group-test.false, c.loop-group.auto.group-index-end, c.as_chunks.ensures.front_len)) c.as_chunks.ensures.back (search rules))
