-- `part::find_span` meets its contract. The invariant: `start` is the sum of the counts passed, and is within the payload.
use Rattle.std.proofs.Common.{◌≡◌, ℕ, List, [], get_or, ◌*◌, ◌/◌, ◌%◌, ◌+◌, ◌≤◌, ◌<◌, length, refl, sym, ap, ◌∙◌, arith}
use Prim.Native.Nat.{suc}
use native.Mathlib.Numerals.{add-one}
use borrow.Author.Tests.{eq-eqb, ne_eqb, le-ltb, tests}
use Rattle.std.proofs.lemmas.List.{get_or-take, length-take-le, get_or_default}
use Rattle.std.proofs.lemmas.Bool.{ltb-true}
use Rattle.std.specs.Simd.{first_chunks}
use Rattle.part.specs.Part.{start_of, span_of}
use Rattle.part.proofs.Laws.{start_mono, span_past, span_here, count_at}
use Rattle.part.proofs.find_span.Invariants.{Passed}
use Rattle.part.proofs.find_span.Goals as goal

pub returns-in_default : goal.returns-in_default
unfolding span_of
returns-in_default c = let odd : length c.args.list.now % 2 ≡ 0 → ⊥ = grind (arith, tests, c.as_chunks.ensures.back_len) in rw (ne_eqb _ _ odd)

pub returns-in_err-last : goal.returns-in_err-last
unfolding span_of
returns-in_err-last c =
    let even : length c.args.list.now % 2 ≡ 0 = grind (arith, tests, c.as_chunks.ensures.back_len, c.in_default-empty.len_below) in
    let past : length c.args.list.now / 2 ≤ c.args.k = grind (arith, tests, c.as_chunks.ensures.front_len, c.in_err-last.ensures.lookup) in
    rw (c.from_residual.ensures, eq-eqb _ _ even, le-ltb _ _ past) refl

-- the count that a turn of the loop reads
counted : {list : List ℕ} {items : List (List ℕ)} {n k j start : ℕ} → Passed list items n k j start → (len : ℕ) → j < length items → len ≡ get_or (get_or items j []) 1 0
    → len ≡ get_or list (2 * j + 1) 0
counted {list} {items} {n} {k} {j} p len h is =
    let before : j < k = omega (arith, h, p.many) in
    is ∙ rw (p.pairs, get_or-take k (first_chunks 2 (length list / 2) list) j [] before) (count_at list (length list / 2) j (omega (arith, p.has)))

-- and the count of the segment that is asked for
counted_last : (list : List ℕ) (pairs : List (List ℕ)) (row : List ℕ) (k len : ℕ) → pairs ≡ first_chunks 2 (length list / 2) list → length pairs ≡ length list / 2
    → k < length list / 2 → row ≡ get_or pairs k row → len ≡ get_or row 1 0 → len ≡ get_or list (2 * k + 1) 0
counted_last list pairs row k len are many has e is =
    let r : row ≡ get_or (first_chunks 2 (length list / 2) list) k [] = e ∙ get_or_default pairs k row [] (omega (arith, many, has)) ∙ rw are refl in
    is ∙ ap (λ (x : List ℕ). get_or x 1 0) r ∙ count_at list (length list / 2) k has

pub loop-count-init : goal.loop-count-init
loop-count-init c =
    let a = c.as_chunks.ensures in
    let has = ltb-true _ _ (sym c.in_ok-last.ensures.lookup.0) in
    record {
      even = grind (arith, a.back_len, c.in_default-empty.len_below);
      has = omega (arith, a.front_len, has);
      pairs = rw a.front refl;
      many = length-take-le _ _ (omega (arith, has));
      sum = refl;
      fits = omega arith;
    }

pub overflow_sub-n : goal.overflow_sub-n
overflow_sub-n c = c.loop-count.invariant.fits

pub returns-then-n-start : goal.returns-then-n-start
returns-then-n-start c =
    let a = c.args in
    let j = c.loop-count.count-index in
    let i = c.loop-count.invariant in
    let len = counted i _ c.loop-count-test.true c.from-len.ensures in
    sym (span_past a.list.now a.n a.k (omega (arith, i.sum, len, start_mono a.list.now (suc j) (suc a.k) (omega (arith, i.many)))))

pub loop-count-preserved : goal.loop-count-preserved
loop-count-preserved c =
    let i = c.loop-count.invariant in
    let len = counted i _ c.loop-count-test.true c.from-len.ensures in
    record { even = i.even; has = i.has; pairs = i.pairs; many = i.many; sum = rw add-one (omega (arith, len, i.sum)); fits = omega (arith, i.fits) }

pub overflow_sub-n-2 : goal.overflow_sub-n-2
overflow_sub-n-2 c = c.loop-count.invariant.fits

-- behind the loop every segment in front of the k-th is passed
passed_all : {list : List ℕ} {items : List (List ℕ)} {n k j start : ℕ} → Passed list items n k j start → j ≤ length items → length items ≤ j → start ≡ start_of list k
passed_all {list} {items} {n} {k} {j} p h g = let e : j ≡ k = omega (arith, p.many) in rw (← e) p.sum

pub returns-then-n-start-2 : goal.returns-then-n-start-2
returns-then-n-start-2 c = let a = c.args in
    let i = c.loop-count.invariant in
    let start = passed_all i c.loop-count.auto.count-index-end c.loop-count-test.false in
    let len = counted_last a.list.now _ _ a.k _ c.as_chunks.ensures.front c.as_chunks.ensures.front_len i.has c.in_ok-last.ensures.lookup.1 c.from-len-2.ensures in
    sym (span_past a.list.now a.n a.k (omega (arith, start, len, i.fits)))

pub returns : goal.returns
returns c = let a = c.args in
    let i = c.loop-count.invariant in
    let start = passed_all i c.loop-count.auto.count-index-end c.loop-count-test.false in
    let len = counted_last a.list.now _ _ a.k _ c.as_chunks.ensures.front c.as_chunks.ensures.front_len i.has c.in_ok-last.ensures.lookup.1 c.from-len-2.ensures in
    rw (span_here a.list.now a.n a.k i.even i.has (omega (arith, start, len, i.fits)), start, len) refl
