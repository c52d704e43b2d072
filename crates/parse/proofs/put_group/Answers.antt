-- `parse::put_group` meets its contract: each size and mode as the definition has it.
use Rattle.std.proofs.Common.{◌≡◌, arith}
use Rattle.parse.proofs.Groups.{placed_three, placed_digits, placed_pair, placed_byte, placed_one, size_one}
use Rattle.parse.proofs.put_group.Goals as goal

pub returns-in-3-default : goal.returns-in-3-default
returns-in-3-default c =
    placed_three _ _ _ _ _ _ _ c.requires.1 c.in-3-default.is-0 c.character.ensures c.character-in-3-default.ensures
    c.character-in-3-default-2.ensures c.copy_from_slice.ensures.after

pub returns-in-2-eq1 : goal.returns-in-2-eq1
returns-in-2-eq1 c =
    placed_digits _ _ _ _ _ _ _ c.requires.1 c.in-2-eq1.is-0 c.in-2-eq1.is-1 c.character-in-2-eq1.ensures
    c.character-in-2-eq1-2.ensures c.copy_from_slice-in-2-eq1.ensures.after

pub returns-in-2-default : goal.returns-in-2-default
returns-in-2-default c =
    let two : c.args.size ≡ 2 = omega arith in
    let other : c.args.mode ≡ 1 → ⊥ = λ e. omega arith in
    placed_pair _ _ _ _ _ _ _ c.requires.1 two other c.character-in-2-default.ensures
    c.character-in-2-default-2.ensures c.copy_from_slice-in-2-default.ensures.after

pub returns-in_default-eq4 : goal.returns-in_default-eq4
returns-in_default-eq4 c =
    placed_byte _ _ _ _ _ (size_one _ _ _ c.requires.0 c.in_default-eq4.is-0.0.1 c.in_default-eq4.is-0.1) c.requires.1 c.in_default-eq4.is-1

pub returns-in_default : goal.returns-in_default
returns-in_default c =
    placed_one _ _ _ _ _ (size_one _ _ _ c.requires.0 c.in_default.is-0.0.1 c.in_default.is-0.1) c.requires.1 c.in_default.is-1.1
    c.character-in_default.ensures
