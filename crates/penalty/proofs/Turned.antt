-- The columns of a turned matrix are the rows of the matrix: `turned_lines`.
use mathlib.Core.Path.{◌≡◌, sym, ap, ap₂, ◌∙◌}
use mathlib.Core.List.{List, ◌++◌, append_assoc, append-nil}
use Prim.Native.Nat.{ℕ, zero, suc, ◌+◌, ◌-◌, ◌*◌, ◌<◌}
use native.Mathlib.Nat.{zero-add, add-zero, zero-mul, suc-mul, mul-one, not-suc-le-zero, le_of_suc-le-suc}
use native.Mathlib.Numerals.{add-one}
use native.Mathlib.Omega.{arith}
use lib.ListN.{length, get_or, drop, length-append, get_or-append}
use lib.Seq.{get_or-append-add, drop-drop}
use borrow.Rule.Slice.PartMut.{put_mid}
use Rattle.basics.specs.Lists.{joined}
use Rattle.basics.proofs.Parts.{lent_front}
use Rattle.penalty.specs.Lines.{line, lines_from, turned}
use Rattle.penalty.proofs.Lines.{length_line, get_d_line, lines_alike}

module _ (m : List ℕ) (step stride n : ℕ) where
  pub length_joined : (start k : ℕ) → length (joined (lines_from m start step stride n k)) ≡ k * n
  unfolding joined lines_from
  length_joined start zero = sym (zero-mul n)
  length_joined start (suc k) =
      rw (length-append, length_line, length_joined (start + step) k, suc-mul) (omega arith)

  -- one line more
  pub joined_more : (start k : ℕ) → joined (lines_from m start step stride n (suc k)) ≡ joined (lines_from m start step stride n k) ++ line m (start + k * step) stride n
  unfolding joined lines_from
  joined_more start zero =
      append-nil (line m start stride n) ∙ ap (λ (p : ℕ). line m p stride n) (rw zero-mul (sym (add-zero start)))
  joined_more start (suc k) =
      let e : start + step + k * step ≡ start + suc k * step = rw suc-mul (omega arith) in
      ap (λ (xs : List ℕ). line m start stride n ++ xs) (joined_more (start + step) k ∙ ap (λ (p : ℕ). joined (lines_from m (start + step) step stride n k) ++ line m p stride n) e)
      ∙ sym (append_assoc (line m start stride n) (joined (lines_from m (start + step) step stride n k)) (line m (start + suc k * step) stride n))

  -- module j of line i
  get_d_joined : (rest : List ℕ) (start k i j : ℕ) → i < k → j < n → get_or (joined (lines_from m start step stride n k) ++ rest) (i * n + j) 0 ≡ get_or m (start + i * step + j * stride) 0
  unfolding joined lines_from
  get_d_joined rest start zero i j h l = absurd (not-suc-le-zero h)
  get_d_joined rest start (suc k) zero j h l =
      rw (append_assoc (line m start stride n) (joined (lines_from m (start + step) step stride n k)) rest, zero-mul, zero-mul, zero-add, add-zero)
      (get_or-append (line m start stride n) _ 0 j (rw length_line l) ∙ get_d_line m start stride n j l)
  get_d_joined rest start (suc k) (suc i) j h l =
      let e : suc i * n + j ≡ length (line m start stride n) + (i * n + j) = rw (length_line, suc-mul) (omega arith) in
      let f : start + step + i * step + j * stride ≡ start + suc i * step + j * stride = rw suc-mul (omega arith) in
      rw (append_assoc (line m start stride n) (joined (lines_from m (start + step) step stride n k)) rest, e)
      (get_or-append-add (line m start stride n) _ (i * n + j) 0 ∙ get_d_joined rest (start + step) k i j (le_of_suc-le-suc h) l ∙ ap (λ (p : ℕ). get_or m p 0) f)

pub turned_lines : (m rest : List ℕ) (s : ℕ) → lines_from (turned s m ++ rest) 0 1 s s s ≡ lines_from m 0 s 1 s s
unfolding turned
turned_lines m rest s =
    lines_alike (joined (lines_from m 0 1 s s s) ++ rest) m 1 s s 1 s s (λ i j h l.
    let e : i * 1 + j * s ≡ j * s + i = rw mul-one (omega arith) in
    let f : 0 + j * 1 + i * s ≡ i * s + j * 1 = omega arith in
    ap (λ (p : ℕ). get_or (joined (lines_from m 0 1 s s s) ++ rest) p 0) e ∙ get_d_joined m 1 s s rest 0 s j i l h ∙ ap (λ (p : ℕ). get_or m p 0) f)

-- one column more is copied
pub turn_more : (m out out₀ ys : List ℕ) (s i : ℕ) → out ≡ joined (lines_from m 0 1 s s i) ++ drop (i * s) out₀ → ys ≡ line m i s s
    → put_mid (i * s) (i * s + s - i * s) out ys ≡ joined (lines_from m 0 1 s s (i + 1)) ++ drop ((i + 1) * s) out₀
turn_more m out out₀ ys s i e l =
    let column : i ≡ 0 + i * 1 = sym (zero-add (i * 1) ∙ mul-one i) in
    let next : i * s + s ≡ (i + 1) * s = rw (add-one, suc-mul) in
    lent_front out (joined (lines_from m 0 1 s s i)) (drop (i * s) out₀) ys (i * s) s e (length_joined m 1 s s 0 i)
    ∙ ap₂ ◌++◌
    (ap (λ (xs : List ℕ). joined (lines_from m 0 1 s s i) ++ xs) (l ∙ ap (λ (p : ℕ). line m p s s) column) ∙ sym (joined_more m 1 s s 0 i) ∙ ap (λ (k : ℕ). joined (lines_from m 0 1 s s k)) (sym (add-one i)))
    (drop-drop s (i * s) out₀ ∙ ap (λ (k : ℕ). drop k out₀) next)
