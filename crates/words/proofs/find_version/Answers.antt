-- `words::find_version` meets its contract.
use Rattle.std.proofs.Common.{rules, ◌≡◌, ℕ, Option, Some, None}
use Rattle.words.specs.Words.{version_word}
use Rattle.words.specs.Found.{FoundAmong, VersionFound}
use Rattle.words.proofs.find_version.Goals as goal

found : (copy readable : ℕ) (r : Option ℕ) → FoundAmong (λ x w. w ≡ version_word x) 18 copy readable 7 41 r → VersionFound copy readable r
found copy readable None none = λ x n. let h = none x n.least (search rules) in h.2 (rw h.1 n.near)
found copy readable (Some x) f = let n = rw f.3 at f.4 in record { least = f.0; most = search rules; near = n }

pub returns : goal.returns
returns c = found c.args.copy c.args.readable c.find.result c.find.ensures
