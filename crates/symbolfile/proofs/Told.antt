-- What is printed from the reader's buffers is the text of its answer: payload and list are their fronts, for a lawful list has no number
-- left over, and it fills the payload.
use mathlib.Core.Path.{◌≡◌, refl, sym, ap, subst, ◌∙◌}
use mathlib.Core.List.{List, ◌++◌}
use Prim.Native.Nat.{ℕ, ◌*◌, ◌/◌, ◌≤◌}
use native.Mathlib.Omega.{arith}
use lib.ListN.{length, take, drop, length-append, length-drop}
use lib.Seq.{take_at}
use Rattle.part.specs.Part.{Fills}
use Rattle.part.proofs.Laws.{lawful_fills}
use Rattle.promises.proofs.Lawful.{reads_lawful}
use Rattle.tables.specs.Tables.{most_payload, most_list}
use Rattle.reader.specs.declared.Reading.{Reading}
use Rattle.std.specs.Prelude.{Result, Ok}
use Rattle.reader.specs.Reader.{Answer, Read, Refused, Reads, payload_after, list_after}
use Rattle.reader.specs.Answers.{Answers, answered_of}
use Rattle.text.specs.Text.{reading_text}

-- what is known where the reader has told a reading: it is an answer, the buffers hold it, and their fronts print as it does
pub record Shown (m : List ℕ) (x : Reading) (payload list : List ℕ) : Type 0 where
  pub bytes : List ℕ
  pub numbers : List ℕ
  pub reads : Reads m most_payload most_list (Read x.version x.level x.mask bytes numbers x.differing x.unreadable)
  pub payload_fits : x.payload ≤ most_payload
  pub list_fits : 2 * x.segments ≤ most_list
  pub fills : Fills (take (2 * x.segments) list) (length (take x.payload payload))
  pub same_text : reading_text x.version x.level x.mask (take x.payload payload) (take (2 * x.segments) list) x.differing x.unreadable
      ≡ reading_text x.version x.level x.mask bytes numbers x.differing x.unreadable

module _ (m p l p' l' : List ℕ) (lp : length p ≡ most_payload) (ll : length l ≡ most_list) (kp : length p' ≡ length p) (kl : length l' ≡ length l) where
  shown : (v level mask : ℕ) (bytes numbers : List ℕ) (t e : ℕ) → Reads m (length p) (length l) (Read v level mask bytes numbers t e)
      → p' ≡ bytes ++ drop (length bytes) p → l' ≡ numbers ++ drop (length numbers) l
      → Shown m
      (record { version = v; level = level; mask = mask; payload = length bytes; segments = length numbers / 2; differing = t; unreadable = e })
      p'
      l'
  unfolding reading_text
  shown v level mask bytes numbers t e r ep el =
      let hp = ap length ep ∙ length-append bytes (drop (length bytes) p) in
      let hl = ap length el ∙ length-append numbers (drop (length numbers) l) in
      let fp : length bytes ≤ most_payload = omega (arith, length-drop (length bytes) p) in
      let fl : length numbers ≤ most_list = omega (arith, length-drop (length numbers) l) in
      let tp : take (length bytes) p' ≡ bytes = rw ep (take_at bytes (drop (length bytes) p) (length bytes) refl) in
      let message = (reads_lawful _ _ _ _ _ _ _ _ _ _ r).message in
      let f = lawful_fills numbers message.modes in
      let tl : take (2 * (length numbers / 2)) l' ≡ numbers =
      rw el (take_at numbers (drop (length numbers) l) (2 * (length numbers / 2)) (omega (arith, f.whole))) in
      record {
        bytes = bytes;
        numbers = numbers;
        reads = rw (lp, ll) at r;
        payload_fits = fp;
        list_fits = omega arith;
        fills = rw (tp, tl, ← message.sums) f;
        same_text = rw (tp, tl);
      }

  pub told : (x : Reading) → Answers m p l (Ok x) p' l' → Shown m x p' l'
  told x a = by a.answer a.reads (sym a.says) a.payload_memory a.list_memory
    where
      by : (w : Answer) → Reads m (length p) (length l) w → ◌≡◌ {A = Result Reading ℕ} (answered_of w) (Ok x) → p' ≡ payload_after w p → l' ≡ list_after w l → Shown m x p' l'
      by (Read v level mask bytes numbers t e) q s ep el =
          let same : record {
            version = v;
            level = level;
            mask = mask;
            payload = length bytes;
            segments = length numbers / 2;
            differing = t;
            unreadable = e;
          } ≡ x = cc in
          subst (λ (y : Reading). Shown m y p' l') same (shown v level mask bytes numbers t e q ep el)
      by (Refused n) q s ep el = absurd cc
