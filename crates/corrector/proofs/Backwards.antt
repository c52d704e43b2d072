-- A `for` over the items of a slice from the last to the first: what a turn has, and where it ends.
use Rattle.std.proofs.Common.{◌≡◌, ℕ, suc, ◌-◌, ◌≤◌, ◌<◌, Option, Some, None, List, reverse, length, take, get_or, ap, ◌∙◌, arith}
use Rattle.std.specs.Iterator.{Yields}
use Rattle.std.proofs.lemmas.Iterator.{YieldsList}
use Rattle.std.proofs.lemmas.Iterator.Consumers.{YieldsList-turn, YieldsList-end}
use Rattle.std.proofs.lemmas.List.{length-reverse, get_or-reverse}
use Rattle.std.proofs.lemmas.Grind.{get_or_default_zero}
use lib.Seq.{get_or-take, length-take-le}
use denote.Ref.{Bor}

module _ {S : Type 0} {steps : S → Option (Bor ℕ) → S → Type 0} {s : S} (xs : List ℕ) (e : YieldsList steps (λ y. y.now) s (reverse xs)) (so_far : List (Bor ℕ)) (t : S) (y : Yields steps s so_far t) (r : Option (Bor ℕ)) (u : S) where
  pub back_turn : (x : Bor ℕ) → r ≡ Some x → steps t r u → (length so_far < length xs) × (x.now ≡ get_or xs (length xs - suc (length so_far)) 0)
  back_turn x is next =
      let turn = YieldsList-turn e so_far t y r u x is next in
      let less : length so_far < length xs = omega (arith, turn.0, length-reverse xs) in
      let place : length xs - 1 - length so_far ≡ length xs - suc (length so_far) = omega arith in
      (less, turn.1 ∙ get_or-reverse xs (length so_far) x.now less ∙ get_or_default_zero xs _ x.now (omega arith) ∙ ap (λ k. get_or xs k 0) place)

  pub back_end : r ≡ None → steps t r u → length so_far ≡ length xs
  back_end is next = (YieldsList-end e so_far t y r u is next).1 ∙ length-reverse xs

-- the same over the first m items
module _ {S : Type 0} {steps : S → Option (Bor ℕ) → S → Type 0} {s : S} (xs : List ℕ) (m : ℕ) (few : m ≤ length xs) (e : YieldsList steps (λ y. y.now) s (reverse (take m xs))) (so_far : List (Bor ℕ)) (t : S) (y : Yields steps s so_far t) (r : Option (Bor ℕ)) (u : S) where
  pub front_turn : (x : Bor ℕ) → r ≡ Some x → steps t r u → (length so_far < m) × (x.now ≡ get_or xs (m - suc (length so_far)) 0)
  front_turn x is next =
      let turn = back_turn (take m xs) e so_far t y r u x is next in
      let long : length (take m xs) ≡ m = length-take-le m xs few in
      (omega (arith, turn.0, long), turn.1 ∙ ap (λ n. get_or (take m xs) (n - suc (length so_far)) 0) long ∙ get_or-take m xs (m - suc (length so_far)) 0 (omega (arith, turn.0, long)))

  pub front_end : r ≡ None → steps t r u → length so_far ≡ m
  front_end is next = back_end (take m xs) e so_far t y r u is next ∙ length-take-le m xs few
