-- A file has one text, since a matrix has one answer.
use mathlib.Core.Path.{◌≡◌, refl, sym, ap, ◌∙◌}
use mathlib.Core.List.{List, ◌++◌}
use Prim.Native.Nat.{ℕ}
use lib.ListN.{length, drop}
use Rattle.tables.specs.Tables.{most_payload, most_list}
use Rattle.reader.specs.Reader.{Answer, Refused}
use Rattle.reader.proofs.Only.{reads_only}
use Rattle.reader.proofs.Some.{reads_some}
use Rattle.symbolfile.specs.SymbolFile.{File, Opened, Symbol, NoSymbol, opened, file_refusal, FileAnswer, printed, Prints, FilePrinted}

pub answer_only : (o : Opened) (x y : Answer) → FileAnswer o x → FileAnswer o y → x ≡ y
answer_only NoSymbol x y p q = p ∙ sym q
answer_only (Symbol m) x y p q = reads_only m most_payload most_list x y p q

pub prints_only : (file : File) (a b : List ℕ) → Prints file a → Prints file b → a ≡ b
prints_only file a b p q = p.prints ∙ ap printed (answer_only (opened file) p.answer q.answer p.answers q.answers) ∙ sym q.prints

-- no two different answers satisfy the promise of `answer`
pub file_printed_only : (file : File) (before : List ℕ) (n n' : ℕ) (a a' : List ℕ) → FilePrinted file before n a → FilePrinted file before n' a' → (n ≡ n') × (a ≡ a')
file_printed_only file before n n' a a' p q =
    let e = prints_only file p.output q.output p.prints q.prints in (
      p.holds.counts ∙ ap length e ∙ sym q.holds.counts,
      p.holds.holds ∙ ap (λ (t : List ℕ). t ++ drop (length t) before) e ∙ sym q.holds.holds,
    )

pub prints_some : (file : File) → (out : List ℕ) × Prints file out
prints_some file = by (opened file) (λ o. o)
  where
    by : (o : Opened) → ((a : Answer) × FileAnswer o a → (a : Answer) × FileAnswer (opened file) a) → (out : List ℕ) × Prints file out
    by NoSymbol f = let w = f (Refused file_refusal, refl) in (printed w.0, record { answer = w.0; answers = w.1; prints = refl })
    by (Symbol m) f = let w = f (reads_some m most_payload most_list) in (printed w.0, record { answer = w.0; answers = w.1; prints = refl })
