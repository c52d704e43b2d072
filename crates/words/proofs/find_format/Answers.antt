-- `words::find_format` meets its contract.
use Rattle.std.proofs.Common.{rules, ◌≡◌, ℕ, Option, Some, None}
use Rattle.words.specs.Words.{format_word}
use Rattle.words.specs.Found.{FoundAmong, FormatFound}
use Rattle.words.proofs.find_format.Goals as goal

found : (copy readable : ℕ) (r : Option ℕ) → FoundAmong (λ x w. w ≡ format_word x) 15 copy readable 0 32 r → FormatFound copy readable r
found copy readable None none = λ x n. let h = none x (search rules) n.lawful in h.2 (rw h.1 n.near)
found copy readable (Some x) f = let n = rw f.3 at f.4 in record { lawful = f.1; near = n }

pub returns : goal.returns
returns c = found c.args.copy c.args.readable c.find.result c.find.ensures
