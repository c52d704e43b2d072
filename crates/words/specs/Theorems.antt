-- What is shown of the words beside the contracts, each a statement with a name.
use Rattle.std.specs.Prelude.{◌≡◌, ℕ, ◌≤◌, ◌<◌, Option}
use Rattle.words.specs.Words.{format_word, version_word, Near}
use Rattle.words.specs.Found.{FormatFound, VersionFound}

-- "Show that at most one does": a copy stands for at most one format word
abbrev pub FormatOnly : Type 0
FormatOnly =
    (copy readable x y : ℕ) → x < 32 → y < 32 → Near 15 copy readable (format_word x) → Near 15 copy readable (format_word y) → x ≡ y

-- and for at most one version word, "versions 7 to 40 in the code"
abbrev pub VersionOnly : Type 0
VersionOnly =
    (copy readable x y : ℕ) → 7 ≤ x → x ≤ 40 → 7 ≤ y → y ≤ 40
    → Near 18 copy readable (version_word x) → Near 18 copy readable (version_word y) → x ≡ y

-- "no two different answers satisfy one promise": that of `find_format`, and that of `find_version`
abbrev pub FormatFoundOnly : Type 0
FormatFoundOnly = (copy readable : ℕ) (a b : Option ℕ) → FormatFound copy readable a → FormatFound copy readable b → a ≡ b

abbrev pub VersionFoundOnly : Type 0
VersionFoundOnly = (copy readable : ℕ) (a b : Option ℕ) → VersionFound copy readable a → VersionFound copy readable b → a ≡ b
