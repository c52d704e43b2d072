-- The steps that were passed leave the answer to the later ones.
use mathlib.Core.Logic.{inr}
use mathlib.Core.List.{List}
use Prim.Native.Nat.{ℕ}
use Rattle.scan.specs.Received.{received}
use Rattle.reader.specs.Reader.{Answer, First, Reads, Above, OtherVersion, NoFormat, TwoFormats, NoCodeword, Formatted, AllStand}
use Rattle.reader.specs.Theorems.{PastSize, PastVersions, PastFormats}

-- ---- an answer that is given by the checks from 8 on

module _ (m : List ℕ) (payload_room list_room : ℕ) where
  pub then_sized : (v : ℕ) (a : Answer) → PastSize m payload_room list_room v
      → First (Above m) 8 a (First (OtherVersion v m) 9 a (First (NoFormat v m) 10 a (First (TwoFormats v m) 11 a (Formatted v m a))))
      → Reads m payload_room list_room a
  unfolding Reads
  then_sized v a s f = inr (s.large, inr (λ n. n v s.square, record { version = v; sized = s.square; then = f }))

  -- .. from 10 on
  pub then_plain : (v : ℕ) (a : Answer) → PastVersions m payload_room list_room v → First (NoFormat v m) 10 a (First (TwoFormats v m) 11 a (Formatted v m a))
      → Reads m payload_room list_room a
  then_plain v a p f = then_sized v a p.sized (inr (p.low, inr (p.same, f)))

  -- .. from 12 on
  pub then_named : (v level mask : ℕ) (a : Answer) → PastFormats m payload_room list_room v level mask
      → First (NoCodeword v level (received v mask m)) 12 a (AllStand v level mask (received v mask m) a) → Reads m payload_room list_room a
  then_named v level mask a n f =
      then_plain v a n.plain
      (inr (λ z. z n.copy level mask n.stands, inr (n.one, record { copy = n.copy; level = level; mask = mask; stands = n.stands; then = f })))
