-- A word, with values added at listed places one after the other.
use mathlib.Core.Path.{◌≡◌}
use mathlib.Core.Logic.{inl}
use mathlib.Core.List.{List}
use Prim.Native.Nat.{ℕ, ◌<◌}
use native.Mathlib.Omega.{arith}
use lib.ListN.{length, get_or}
use Rattle.corrector.specs.Places.{Mended}

pub mended_start : (word at values r : List ℕ) → ((j : ℕ) → j < length word → get_or r j 0 ≡ get_or word j 0) → Mended word at values 0 r
mended_start word at values r e = record { each = λ j l. inl (e j l, λ k h. absurd (omega arith)) }
