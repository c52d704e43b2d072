-- Parts one after the other: part b of `joined (map f (up_to n))` starts at the sum of the lengths before it, and a list cut at such sums joins to itself.
use mathlib.Core.Path.{◌≡◌, refl, sym, ap, ◌∙◌}
use mathlib.Core.Logic.{⊎_elim}
use mathlib.Core.List.{List, [], ◌∷◌, ◌++◌, map, append-nil}
use Prim.Native.Nat.{ℕ, zero, suc, ◌+◌, ◌-◌, ◌<◌, ◌≤◌}
use native.Mathlib.Nat.{not-suc-le-zero, le_of_suc-le-suc, eq-or-lt_of_le}
use native.Mathlib.Numerals.{add-one}
use native.Mathlib.Omega.{arith}
use lib.ListN.{length, take, drop, length-append, length-drop}
use borrow.Rule.Slice.PartMut.{put_mid}
use lib.Seq.{take-add, drop_at, drop-drop, drop-length, take-append-le, drop-append-le, take-length}
use Rattle.basics.specs.Lists.{from, up_to, joined}
use Rattle.basics.specs.Sums.{sum}
use Rattle.basics.specs.Build.{build}
use Rattle.basics.proofs.Build.{build_all}
use Rattle.basics.proofs.Lists.{map_up_to_suc, joined_append, build_up_to}
use Rattle.basics.proofs.Parts.{lent_front}
use Rattle.basics.proofs.Sums.{sum_mono}

pub joined_suc : (f : ℕ → List ℕ) (n : ℕ) → joined (map f (up_to (suc n))) ≡ joined (map f (up_to n)) ++ f n
unfolding joined
joined_suc f n = rw (map_up_to_suc f n) (joined_append (map f (up_to n)) (f n ∷ []) ∙ ap (λ (l : List ℕ). joined (map f (up_to n)) ++ l) (append-nil (f n)))

-- a list that is built
pub built : (f : ℕ → ℕ) (l : List ℕ) (k n : ℕ) → take k l ≡ build f k → k ≡ n → length l ≡ n → l ≡ map f (up_to n)
built f l k n t e h = build_all f l n h (rw e at t) ∙ build_up_to f n

-- a list that is cut into parts
pub cut : (xs : List ℕ) (long : ℕ → ℕ) (n : ℕ) → joined (map (λ b. take (long b) (drop (sum b long) xs)) (up_to n)) ≡ take (sum n long) xs
unfolding joined up_to from sum
cut xs long zero = refl
cut xs long (suc n) =
    joined_suc (λ b. take (long b) (drop (sum b long) xs)) n
    ∙ ap (λ (l : List ℕ). l ++ take (long n) (drop (sum n long) xs)) (cut xs long n)
    ∙ sym (take-add (sum n long) (long n) xs)

module _ (f : ℕ → List ℕ) (long : ℕ → ℕ) where
  pub length_joined : (n : ℕ) → ((b : ℕ) → b < n → length (f b) ≡ long b) → length (joined (map f (up_to n))) ≡ sum n long
  unfolding joined up_to from sum
  length_joined zero h = refl
  length_joined (suc n) h =
      ap length (joined_suc f n) ∙ length-append (joined (map f (up_to n))) (f n)
      ∙ rw (length_joined n (λ b l. h b (omega arith)), h n (omega arith))

  -- where part b starts, and that it stands there
  pub part_joined : (n : ℕ) → ((b : ℕ) → b < n → length (f b) ≡ long b) → (b : ℕ) → b < n → take (long b) (drop (sum b long) (joined (map f (up_to n)))) ≡ f b
  unfolding sum
  part_joined zero h b l = absurd (not-suc-le-zero l)
  part_joined (suc n) h b l =
      let all : length (joined (map f (up_to n))) ≡ sum n long = length_joined n (λ b l. h b (omega arith)) in
      rw (joined_suc f n)
      (⊎_elim
      (λ (e : b ≡ n). rw (e, drop_at (joined (map f (up_to n))) (f n) (sum n long) all, ← h n (omega arith)) (take-length (f n)))
      (λ m.
      let end : sum b long + long b ≤ sum n long = sum_mono (suc b) n long m in
      let front : sum b long ≤ length (joined (map f (up_to n))) = omega arith in
      let room : long b ≤ length (drop (sum b long) (joined (map f (up_to n)))) = rw length-drop (omega arith) in
      rw (drop-append-le (sum b long) (joined (map f (up_to n))) (f n) front, take-append-le (long b) _ (f n) room)
      (part_joined n (λ b l. h b (omega arith)) b m))
      (eq-or-lt_of_le (le_of_suc-le-suc l)))

-- ---- a buffer that is filled part after part: the parts before part b, and the rest as it was

unfoldable pub filled : (f : ℕ → List ℕ) (out₀ : List ℕ) (b a : ℕ) → List ℕ
filled f out₀ b a = joined (map f (up_to b)) ++ drop a out₀

pub fill_none : (f : ℕ → List ℕ) (out : List ℕ) → out ≡ filled f out 0 0
unfolding filled joined up_to from
fill_none f out = refl

-- part b was lent and came back as f b
pub fill_more : (f : ℕ → List ℕ) (long : ℕ → ℕ) (out out₀ ys : List ℕ) (b a n : ℕ) → ((k : ℕ) → k < b → length (f k) ≡ long k) → a ≡ sum b long
    → out ≡ filled f out₀ b a → ys ≡ f b → put_mid a (a + n - a) out ys ≡ filled f out₀ (b + 1) (a + n)
unfolding filled
fill_more f long out out₀ ys b a n h s e y =
    lent_front out (joined (map f (up_to b))) (drop a out₀) ys a n e (length_joined f long b h ∙ sym s)
    ∙ rw (y, add-one, joined_suc f b, drop-drop)

-- after the last part
pub fill_all : (f : ℕ → List ℕ) (long : ℕ → ℕ) (out out₀ : List ℕ) (b a n : ℕ) → out ≡ filled f out₀ b a → a ≡ sum b long → b ≡ n → sum n long ≡ length out₀
    → out ≡ joined (map f (up_to n))
unfolding filled
fill_all f long out out₀ b a n e s h t = e ∙ rw (s, h, t, drop-length out₀) (append-nil (joined (map f (up_to n))))
