-- Files computed: no file, no bytes, five bytes, wrong marks, wrong versions, lengths one off, sides 0, 1 and 2.
use mathlib.Core.Path.{◌≡◌, refl}
use mathlib.Core.List.{[], ◌∷◌, map}
use Rattle.basics.specs.Lists.{same}
use Rattle.symbolfile.specs.SymbolFile.{Closed, Holds, Symbol, NoSymbol, mark, whole, opened}

pub files : map opened (
    Closed
    ∷ Holds []
    ∷ Holds (75 ∷ 81 ∷ 83 ∷ 0 ∷ 1 ∷ [])
    ∷ Holds (75 ∷ 81 ∷ 115 ∷ 0 ∷ 1 ∷ 0 ∷ [])
    ∷ Holds (76 ∷ 81 ∷ 83 ∷ 0 ∷ 1 ∷ 0 ∷ [])
    ∷ Holds (75 ∷ 83 ∷ 81 ∷ 0 ∷ 1 ∷ 0 ∷ [])
    ∷ Holds (75 ∷ 81 ∷ 83 ∷ 0 ∷ 2 ∷ 0 ∷ [])
    ∷ Holds (75 ∷ 81 ∷ 83 ∷ 1 ∷ 0 ∷ 0 ∷ [])
    ∷ Holds (75 ∷ 81 ∷ 83 ∷ 1 ∷ 1 ∷ 0 ∷ [])
    ∷ Holds (75 ∷ 81 ∷ 83 ∷ 0 ∷ 1 ∷ 1 ∷ [])
    ∷ Holds (75 ∷ 81 ∷ 83 ∷ 0 ∷ 1 ∷ 1 ∷ 0 ∷ 1 ∷ [])
    ∷ Holds (75 ∷ 81 ∷ 83 ∷ 0 ∷ 1 ∷ 0 ∷ 0 ∷ [])
    ∷ Holds (75 ∷ 81 ∷ 83 ∷ 0 ∷ 1 ∷ 0 ∷ [])
    ∷ Holds (75 ∷ 81 ∷ 83 ∷ 0 ∷ 1 ∷ 1 ∷ 9 ∷ [])
    ∷ Holds (75 ∷ 81 ∷ 83 ∷ 0 ∷ 1 ∷ 2 ∷ 0 ∷ 1 ∷ 2 ∷ 1 ∷ [])
    ∷ [])
    ≡ NoSymbol
    ∷ NoSymbol
    ∷ NoSymbol
    ∷ NoSymbol
    ∷ NoSymbol
    ∷ NoSymbol
    ∷ NoSymbol
    ∷ NoSymbol
    ∷ NoSymbol
    ∷ NoSymbol
    ∷ NoSymbol
    ∷ NoSymbol
    ∷ Symbol []
    ∷ Symbol (9 ∷ [])
    ∷ Symbol (0 ∷ 1 ∷ 2 ∷ 1 ∷ [])
    ∷ []
unfolding whole mark same
files = refl
