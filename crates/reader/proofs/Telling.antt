-- Each way out of the reader is the plain rule's answer: the steps passed say that no earlier fault is there, and the last step's answer is the
-- first fault, or the message.
use mathlib.Core.Path.{◌≡◌, refl, ap, ◌∙◌}
use mathlib.Core.Logic.{◌⊎◌, inl, inr, ⊎_elim}
use mathlib.Core.List.{List}
use Rattle.std.specs.Prelude.{Result, Ok, Err}
use Prim.Native.Nat.{ℕ, ◌≤◌, ◌<◌}
use native.Mathlib.Omega.{arith}
use lib.ListN.{length}
use Rattle.basics.specs.Lists.{AtMost}
use Rattle.tables.specs.Tables.{most_payload, most_list}
use Rattle.parse.specs.Parse.{Parsed, Message, Fault, message}
use Rattle.parse.specs.Answer as parsed
use Rattle.parse.specs.declared.Sizes.{Sizes}
use Rattle.parse.specs.declared.Fault as declared
use Rattle.scan.specs.Received.{received}
use Rattle.corrector.specs.declared.Counts.{Counts}
use Rattle.reader.specs.declared.Reading.{Reading}
use Rattle.reader.specs.declared.Refusal.{Refusal}
use Rattle.reader.specs.declared.Refusal.TheVariants as refused
use Rattle.reader.specs.Reader.{Refused, decided, First, Reads, Small, NoVersion, Above, OtherVersion, NoCodeword, AllStand, payload_after, list_after}
use Rattle.reader.specs.Steps.{FormatsRead, WithinBounds}
use Rattle.reader.specs.Refusals.{refusal_number}
use Rattle.reader.specs.Theorems.{PastSize, PastVersions, PastFormats}
use Rattle.reader.specs.Answers.{Answers, Finished, answered_of, by_number}
use Rattle.reader.proofs.Passing.{then_sized, then_plain, then_named}

module _ (m payload list : List ℕ) where
  denied : (r : Refusal) → Reads m (length payload) (length list) (Refused (refusal_number r)) → Answers m payload list (Err r) payload list
  denied r h = record { answer = Refused (refusal_number r); reads = h; says = refl; payload_memory = refl; list_memory = refl }

  pub small : (length payload < most_payload) ⊎ ((most_payload ≤ length payload) × (length list < most_list)) → Answers m payload list (Err refused.SmallBuffer) payload list
  unfolding Reads
  small h = denied refused.SmallBuffer (inl (⊎_elim inl (λ k. inr k.1) h, refl))

  pub no_version : (Small (length payload) (length list) → ⊥) → (r : Refusal) → (r ≡ refused.NoVersion) × NoVersion m → Answers m payload list (Err r) payload list
  unfolding Reads
  no_version large r h = rw h.0 (denied refused.NoVersion (inr (large, inl (h.1, refl))))

  module _ (v : ℕ) where
    pub above : PastSize m (length payload) (length list) v → (r : Refusal) → (r ≡ refused.AboveTwo) × Above m → Answers m payload list (Err r) payload list
    above s r h = rw h.0 (denied refused.AboveTwo (then_sized m _ _ v (Refused 8) s (inl (h.1, refl))))

    pub other_version : PastSize m (length payload) (length list) v → (Above m → ⊥) → (r : Refusal) → (r ≡ refused.OtherVersion) × OtherVersion v m
        → Answers m payload list (Err r) payload list
    other_version s low r h = rw h.0 (denied refused.OtherVersion (then_sized m _ _ v (Refused 9) s (inr (low, inl (h.1, refl)))))

    pub no_format : PastVersions m (length payload) (length list) v → (r : Refusal) → FormatsRead v m (Err r) → Answers m payload list (Err r) payload list
    no_format p r (inl (q, none)) = rw q (denied refused.NoFormat (then_plain m _ _ v (Refused 10) p (inl (none, refl))))
    no_format p r (inr (q, some, t)) = rw q (denied refused.TwoFormats (then_plain m _ _ v (Refused 11) p (inr (some, inl (t, refl)))))

    pub finished : (level mask : ℕ) → PastFormats m (length payload) (length list) v level mask → (r : Result Reading Refusal) (payload' list' : List ℕ)
        → Finished v level mask m payload list r payload' list' → Answers m payload list r payload' list'
    finished level mask n r payload' list' f =
        record {
          answer = f.answer;
          reads = then_named m _ _ v level mask f.answer n f.then;
          says = f.says;
          payload_memory = f.payload_memory;
          list_memory = f.list_memory;
        }

pub not_small : (payload_room list_room : ℕ) → most_payload ≤ payload_room → most_list ≤ list_room → Small payload_room list_room → ⊥
not_small payload_room list_room hp hl s = ⊎_elim (λ h. omega arith) (λ h. omega arith) s

pub not_above : (m : List ℕ) → AtMost 2 m → Above m → ⊥
not_above m fine a = omega (arith, fine a.0 a.1, a.2)

-- ---- the last two steps

module _ (v level mask : ℕ) (m payload list : List ℕ) where
  pub beyond : (r : Refusal) → (r ≡ refused.NoCodeword) × NoCodeword v level (received v mask m) → Finished v level mask m payload list (Err r) payload list
  beyond r h = record { answer = Refused 12; then = inl (h.1, refl); says = rw h.0; payload_memory = refl; list_memory = refl }

  module _ (held : List ℕ) (s : Counts) (within : WithinBounds v level (received v mask m) held s) where
    then_told : First (NoCodeword v level (received v mask m)) 12 (decided v level mask s.differing s.unreadable (message v held))
        (AllStand v level mask (received v mask m) (decided v level mask s.differing s.unreadable (message v held)))
    then_told =
        inr (
          (λ n. n.2 _ _ _ (within.stand n.0 n.1)),
          record {
            blocks = within.blocks;
            ts = within.ts;
            es = within.es;
            stand = within.stand;
            gives = cc (within.differing_sum, within.unreadable_sum, ap (message v) within.data_is);
          },
        )

    same_payload : (x : Parsed) → parsed.payload_after x payload ≡ payload_after (decided v level mask s.differing s.unreadable x) payload
    same_payload (Message a b) = refl
    same_payload (Fault n) = refl

    same_list : (x : Parsed) → parsed.list_after x list ≡ list_after (decided v level mask s.differing s.unreadable x) list
    same_list (Message a b) = refl
    same_list (Fault n) = refl

    -- what the reader answers where the stream gave that
    abbrev answer_at : Result Sizes ℕ → Result Reading ℕ
    answer_at (Ok z) =
        Ok (record { version = v; level = level; mask = mask; payload = z.payload; segments = z.segments; differing = s.differing; unreadable = s.unreadable })
    answer_at (Err k) = Err k

    same_answer : (x : Parsed) → answer_at (parsed.answer_of x) ≡ answered_of (decided v level mask s.differing s.unreadable x)
    same_answer (Message a b) = refl
    same_answer (Fault n) = refl

    module _ (r : Result Sizes declared.Fault) (payload' list' : List ℕ)
        (f : (parsed.by_number r ≡ parsed.answer_of (message v held)) × ((payload' ≡ parsed.payload_after (message v held) payload) × (list' ≡ parsed.list_after (message v held) list)))
      where
        pub told : (t : Result Reading Refusal) → by_number t ≡ answer_at (parsed.by_number r) → Finished v level mask m payload list t payload' list'
        told t e =
            record {
              answer = decided v level mask s.differing s.unreadable (message v held);
              then = then_told;
              says = e ∙ ap answer_at f.0 ∙ same_answer (message v held);
              payload_memory = f.1.0 ∙ same_payload (message v held);
              list_memory = f.1.1 ∙ same_list (message v held);
            }
