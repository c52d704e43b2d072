-- `blocks::Sizes::add_checks` meets its contract. The invariant: the data stands in front, and behind it the checks of the first b blocks.
use Rattle.std.proofs.Common.{◌≡◌, ℕ, List, ◌++◌, ◌+◌, ◌*◌, length, take, drop}
use Rattle.tables.specs.Tables.{check_count, data_count}
use Rattle.blocks.proofs.Behind.{front}
use Rattle.blocks.proofs.Sizes.add_checks.Given as goal

pub record Added (v level b : ℕ) (words₀ words : List ℕ) : Type 0 where
  pub long : length words ≡ length words₀
  pub done : words ≡ front v level (take (data_count v level) words₀) b ++ drop (data_count v level + b * check_count v level) words₀

abbrev pub invariant-loop-b : goal.invariant-loop-b
invariant-loop-b l = Added l.self.v l.self.level l.b l.initial.words l.words
