-- What the reader answers, as the numbers of the entries: each is small enough for 32 bits.
use mathlib.Core.Path.{◌≡◌, sym, subst}
use mathlib.Core.List.{List}
use Prim.Native.Nat.{ℕ, ◌^◌, ◌/◌, ◌<◌}
use native.Mathlib.Omega.{arith}
use lib.ListN.{length}
use Rattle.std.specs.Prelude.{Result, Ok}
use Rattle.reader.specs.Reader.{Answer, Read, Refused, Reads}
use Rattle.reader.specs.Answers.{Answers, answered_of}
use Rattle.reader.specs.declared.Reading.{Reading}
use Rattle.promises.proofs.Lawful.{reads_lawful}

-- each number of a reading is one of 32 bits
pub record Narrow (r : Reading) : Type 0 where
  pub version : r.version < 2 ^ 32
  pub level : r.level < 2 ^ 32
  pub mask : r.mask < 2 ^ 32
  pub payload : r.payload < 2 ^ 32
  pub segments : r.segments < 2 ^ 32
  pub differing : r.differing < 2 ^ 32
  pub unreadable : r.unreadable < 2 ^ 32

module _ (m payload list payload' list' : List ℕ) where
  narrow_of : (r : Reading) (x : Answer) → Reads m (length payload) (length list) x → ◌≡◌ {A = Result Reading ℕ} (Ok r) (answered_of x) → Narrow r
  narrow_of r (Read v l k p q t e) reads same =
      let y : r ≡ record { version = v; level = l; mask = k; payload = length p; segments = length q / 2; differing = t; unreadable = e } = cc in
      let b = reads_lawful m (length payload) (length list) v l k t e p q reads in
      subst Narrow (sym y)
      (record {
        version = omega (arith, b.lawful.most);
        level = omega (arith, b.lawful.levels);
        mask = omega (arith, b.masks);
        payload = omega (arith, b.payload_most);
        segments = omega (arith, b.list_most);
        differing = omega (arith, b.differing_most);
        unreadable = omega (arith, b.unreadable_most);
      })
  narrow_of r (Refused n) reads same = absurd cc

  pub narrow : (r : Reading) → Answers m payload list (Ok r) payload' list' → Narrow r
  narrow r done = narrow_of r done.answer done.reads done.says
