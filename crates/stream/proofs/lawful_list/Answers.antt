use Rattle.std.proofs.Common.{arith, rules, tests, ◌≡◌, ℕ, ◌%◌, List, length, sym, ap, ◌∙◌, Bor}
use borrow.Author.Tests.{eqb-true, eqb-false}
use Rattle.std.specs.Slice.Iter.{chunks_exact_rest, chunks_exact_size, chunks_exact_steps}
use Rattle.std.proofs.lemmas.Iterator.Search.{all_from_yields_List}
use Rattle.std.proofs.lemmas.Iterator.Splits.{YieldsList-from_shown_while}
use Rattle.std.specs.List.{list_all}
use Rattle.stream.proofs.Pairs.{known_pair, pairs, pairs_none, pairs_more, lawful_even, lawful_odd}
use Rattle.stream.proofs.lawful_list.Goals as goal

pub returns-then-is_empty : goal.returns-then-is_empty
returns-then-is_empty c =
    let l = c.args.list.now in
    let s = c.chunks_exact-pairs.result in
    let e = c.chunks_exact-pairs.ensures in
    let none : length c.remainder.result.now ≡ 0 = eqb-true _ _ (sym c.is_empty.ensures ∙ c.if-is_empty.true) in
    let even : length l % 2 ≡ 0 = omega (arith, e.remainder_len, ap length c.remainder.ensures) in
    all_from_yields_List known_pair _ _ _ c.all.ensures.ran
    (YieldsList-from_shown_while (chunks_exact_steps {A = ℕ}) (λ (x : Bor (List ℕ)). x.now) (λ s. pairs (chunks_exact_rest s)) (λ s. chunks_exact_size s ≡ 2)
    (λ s t two r. ap length (pairs_none (chunks_exact_rest s) (omega (arith, r.1.0))))
    (λ s x t two r. (r.0 ∙ two, ap pairs r.1.0 ∙ pairs_more x.now (chunks_exact_rest t) (r.1.1 ∙ two))) s e.size)
    (λ x b q k. search (rules, tests))
    ∙ ap (λ (l : List ℕ). list_all known_pair (pairs l)) e.rest ∙ lawful_even l even

pub returns-else-is_empty : goal.returns-else-is_empty
returns-else-is_empty c =
    let some = eqb-false _ _ (sym c.is_empty.ensures ∙ c.if-is_empty.false) in
    c.if-is_empty.false ∙ sym (lawful_odd c.args.list.now (λ h. some (omega (arith, c.chunks_exact-pairs.ensures.remainder_len, ap length c.remainder.ensures))))
