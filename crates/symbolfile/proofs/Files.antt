-- A file that is no symbol file prints refusal 17, and any other what its modules print.
use mathlib.Core.Path.{◌≡◌, refl, sym, ap, ◌∙◌}
use mathlib.Core.List.{List}
use Prim.Native.Nat.{ℕ, ◌+◌, ◌*◌, ◌-◌, ◌≤◌, ◌<◌}
use native.Mathlib.Omega.{arith}
use lib.ListN.{length, get_or, take, drop, length-drop, length-append}
use lib.Seq.{take_all}
use borrow.Author.Tests.{eq-eqb, ne_eqb}
use Rattle.reader.specs.Reader.{Refused}
use Rattle.text.specs.Paste.{Printed}
use Rattle.text.specs.Text.{refusal_text}
use Rattle.symbolfile.specs.SymbolFile.{File, Holds, Symbol, NoSymbol, mark, opened, file_refusal, SymbolPrinted, FilePrinted, printed}
use Rattle.symbolfile.proofs.Header.{short, wrong, decided}

-- all that is left of a list from a place on
pub rest : (f : List ℕ) (k : ℕ) → take (length f - k) (drop k f) ≡ drop k f
rest f k = take_all (length f - k) (drop k f) (rw length-drop (omega arith))

pub no_short : (f : List ℕ) → length f < 6 → opened (Holds f) ≡ NoSymbol
no_short f h = rw (short f h)

pub no_wrong : (f : List ℕ) (i : ℕ) → i < 5 → (get_or f i 0 ≡ get_or mark i 0 → ⊥) → opened (Holds f) ≡ NoSymbol
no_wrong f i h n = rw (wrong f i h n)

-- with the mark and the version right, the length decides
module _ (f : List ℕ) (h : 6 ≤ length f) (e₀ : get_or f 0 0 ≡ 75) (e₁ : get_or f 1 0 ≡ 81) (e₂ : get_or f 2 0 ≡ 83) (e₃ : get_or f 3 0 ≡ 0) (e₄ : get_or f 4 0 ≡ 1) where
  long : length (take (length f - 6) (drop 6 f)) ≡ length f - 6
  long = rw (rest f 6, length-drop) refl

  pub right_length : (s : ℕ) → s ≡ get_or f 5 0 → length (take (length f - 6) (drop 6 f)) ≡ s * s → opened (Holds f) ≡ Symbol (take (length f - 6) (drop 6 f))
  right_length s is e =
      let l : length f ≡ 6 + get_or f 5 0 * get_or f 5 0 = rw (← is) (omega (arith, long)) in
      rw (decided f h e₀ e₁ e₂ e₃ e₄, eq-eqb _ _ l) (ap (λ (m : List ℕ). Symbol m) (sym (rest f 6)))

  pub wrong_length : (s : ℕ) → s ≡ get_or f 5 0 → (length (take (length f - 6) (drop 6 f)) ≡ s * s → ⊥) → opened (Holds f) ≡ NoSymbol
  wrong_length s is n =
      let l : length f ≡ 6 + get_or f 5 0 * get_or f 5 0 → ⊥ = λ e. n (rw is (omega (arith, long))) in
      rw (decided f h e₀ e₁ e₂ e₃ e₄, ne_eqb _ _ l)

pub no_symbol : (f b : List ℕ) (n : ℕ) (a : List ℕ) → opened (Holds f) ≡ NoSymbol → Printed (refusal_text file_refusal) b n a → FilePrinted (Holds f) b n a
no_symbol f b n a e p = record { output = refusal_text file_refusal; prints = record { answer = Refused file_refusal; answers = rw e refl; prints = refl }; holds = p }

pub symbol : (f m b : List ℕ) (n : ℕ) (a : List ℕ) → opened (Holds f) ≡ Symbol m → SymbolPrinted m b n a → FilePrinted (Holds f) b n a
symbol f m b n a e p =
    record { output = printed p.answer; prints = record { answer = p.answer; answers = rw e p.reads; prints = refl }; holds = p.holds }

-- so many bytes are within the buffer
pub within : (file : File) (b : List ℕ) (n : ℕ) (a : List ℕ) → FilePrinted file b n a → n ≤ length a
within file b n a p = let q = p.holds in omega (arith, q.counts, ap length q.holds ∙ length-append p.output (drop (length p.output) b))
