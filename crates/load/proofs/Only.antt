-- What was loaded has one text, since a file has one answer.
use mathlib.Core.Path.{◌≡◌, sym, ap, ◌∙◌}
use mathlib.Core.List.{List, ◌++◌}
use Prim.Native.Nat.{ℕ}
use Rattle.std.specs.Prelude.{Option, Some, None}
use lib.ListN.{length, take, drop}
use Rattle.reader.specs.Reader.{Answer}
use Rattle.symbolfile.specs.SymbolFile.{Holds, opened, printed}
use Rattle.symbolfile.proofs.Only.{answer_only}
use Rattle.load.specs.Loaded.{LoadedAnswer, LoadedPrinted}

loaded_answer_only : (l : Option ℕ) (bytes : List ℕ) (x y : Answer) → LoadedAnswer l bytes x → LoadedAnswer l bytes y → x ≡ y
loaded_answer_only None bytes x y p q = p ∙ sym q
loaded_answer_only (Some n) bytes x y p q = answer_only (opened (Holds (take n bytes))) x y p q

-- no two different answers satisfy the promise of `print_loaded`
pub loaded_printed_only : (l : Option ℕ) (bytes before : List ℕ) (n n' : ℕ) (a a' : List ℕ)
    → LoadedPrinted l bytes before n a → LoadedPrinted l bytes before n' a' → (n ≡ n') × (a ≡ a')
loaded_printed_only l bytes before n n' a a' p q =
    let e = ap printed (loaded_answer_only l bytes p.answer q.answer p.answers q.answers) in (
      p.holds.counts ∙ ap length e ∙ sym q.holds.counts,
      p.holds.holds ∙ ap (λ (t : List ℕ). t ++ drop (length t) before) e ∙ sym q.holds.holds,
    )
