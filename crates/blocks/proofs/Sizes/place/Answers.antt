-- `blocks::Sizes::place` meets its contract: one case of the closed form at each return.
use mathlib.Core.Path.{◌≡◌, sym, ◌∙◌}
use Prim.Native.Nat.{ℕ}
use native.Mathlib.Omega.{arith}
use Rattle.blocks.specs.declared.Sizes.{Sizes}
use Rattle.blocks.specs.Blocks.{place_by, sent_place}
use Rattle.blocks.proofs.Places.{in_short, in_last, short_check, long_check, same_place}
use Rattle.blocks.proofs.Sizes.place.Goals as goal

by_numbers : (s : Sizes) (b p : ℕ) → place_by s.held s.blocks s.short s.few b p ≡ sent_place s.v s.level b p
by_numbers s b p = same_place s.v s.level s.held s.blocks s.short s.few b p s.of_data s.of_blocks s.of_short s.of_few

pub returns-then-p-self : goal.returns-then-p-self
returns-then-p-self c = sym (in_short _ _ _ _ _ _ (omega arith)) ∙ by_numbers c.args.self _ _

pub returns-then-b-self : goal.returns-then-b-self
returns-then-b-self c = sym (short_check _ _ _ _ _ _ (omega arith) (omega arith)) ∙ by_numbers c.args.self _ _

pub returns-then-p-self-2 : goal.returns-then-p-self-2
returns-then-p-self-2 c = sym (in_last _ _ _ _ _ _ (omega arith) (omega arith)) ∙ by_numbers c.args.self _ _

pub returns-else-p-self-2 : goal.returns-else-p-self-2
returns-else-p-self-2 c = sym (long_check _ _ _ _ _ _ (omega arith) (omega arith)) ∙ by_numbers c.args.self _ _
